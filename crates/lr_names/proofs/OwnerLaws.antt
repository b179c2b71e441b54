-- Texts of ids and owners are one to one.
use Rattle.std.proofs.Common.{◌≡◌, ℕ, ◌<◌, ◌≤◌, List, [], ◌∷◌, length, get_or, Option, Some, unwrap_or, Bool, true, false, IsTrue, if◌then◌else◌, inl, decimal, arith, true≢false, refl, sym, ap, ◌∙◌, length-append}
use Rattle.std.proofs.lemmas.Bool.Decides.{nat_tests}
use Rattle.std.proofs.lemmas.Fmt.{decimal_injective, length-decimal-le}
use Rattle.uuid.specs.Text.{parsed, lower, hex_digit, nibble, digit_place, is_hyphen_place}
use Rattle.uuid.proofs.RoundTrips.{parses_hyphenated}
use Rattle.uuid.proofs.TextLemmas.{by_index_length, by_index_at, nibble_small}
use Rattle.lr_text.specs.Words.{lacks}
use Rattle.lr_text.proofs.WordLaws.{lacks-from_places, cut-injective}
use Rattle.lr_names.specs.Name.{is_name_byte}
use Rattle.lr_names.specs.Owner.{ThreadOfClient, IsThread, IsId, IsOwner, id_text, owner_text}

-- an id is read back from its text
pub parsed-id_text : (id : List ℕ) → IsId id → Some id ≡ parsed (id_text id)
parsed-id_text id h = parses_hyphenated lower id (inl refl) h.long h.bytes

pub id_text-injective : (a b : List ℕ) → IsId a → IsId b → id_text a ≡ id_text b → a ≡ b
id_text-injective a b in_a in_b same =
    ap (λ (o : Option (List ℕ)). unwrap_or o []) (parsed-id_text a in_a ∙ ap parsed same ∙ sym (parsed-id_text b in_b))

pub length-id_text : (id : List ℕ) → length (id_text id) ≡ 36
length-id_text id = by_index_length 36 _

-- an id is written in bytes that a name can have
hex_digit-is_name_byte : (d : ℕ) → d < 16 → is_name_byte (hex_digit lower d) ≡ true
hex_digit-is_name_byte d small = grind (arith, nat_tests)

either-is_name_byte : (b : Bool) (x y : ℕ) → is_name_byte x ≡ true → is_name_byte y ≡ true
    → is_name_byte (if b then x else y) ≡ true
either-is_name_byte true x y p q = p
either-is_name_byte false x y p q = q

-- so it lacks every other byte
pub id_text-lacks : (byte : ℕ) (id : List ℕ) → is_name_byte byte ≡ false
    → IsTrue (lacks byte (id_text id))
id_text-lacks byte id other =
    lacks-from_places byte (id_text id) (λ k within e.
    let below : k < 36 = omega (arith, length-id_text id) in
    let d : ℕ = nibble id (digit_place k) in
    let at : ℕ → ℕ = λ j.
    if is_hyphen_place j then 45 else hex_digit lower (nibble id (digit_place j)) in
    let is : get_or (id_text id) k 0 ≡ at k = by_index_at 36 at k 0 below in
    let digit = hex_digit-is_name_byte d (nibble_small id (digit_place k)) in
    let named = either-is_name_byte (is_hyphen_place k) 45 (hex_digit lower d) refl digit in
    true≢false (sym named ∙ ap is_name_byte (sym is ∙ e) ∙ other))

-- two owners with one text are one
pub owner_text-injective : (a b : ThreadOfClient) → IsOwner a → IsOwner b → owner_text a ≡ owner_text b → a ≡ b
owner_text-injective a b in_a in_b same =
    let parts = cut-injective 58 (id_text a.client) (id_text b.client) (decimal a.thread) (decimal b.thread) (id_text-lacks 58 a.client refl) (id_text-lacks 58 b.client refl) same in
    let client = id_text-injective a.client b.client in_a.client in_b.client parts.0 in
    let thread = decimal_injective a.thread b.thread (omega (arith, in_a.thread.1)) (omega (arith, in_b.thread.1)) parts.1 in
    ap (λ (c : List ℕ). record { client = c; thread = a.thread }) client ∙ ap (λ (t : ℕ). record { client = b.client; thread = t }) thread

-- an owner's text has at most 40 bytes
pub length-owner_text : (owner : ThreadOfClient) → IsThread owner.thread → length (owner_text owner) ≤ 40
length-owner_text owner range =
    let digits = length-decimal-le 3 owner.thread (omega arith) (omega (arith, range.1)) (omega (arith, range.1)) in
    omega (arith, length-append (id_text owner.client) (58 ∷ decimal owner.thread), length-id_text owner.client)
