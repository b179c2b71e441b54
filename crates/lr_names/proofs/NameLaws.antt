-- Bytes that no name has.
use Rattle.std.proofs.Common.{◌≡◌, ◌≢◌, ℕ, List, [], ◌∷◌, false, true≢false, IsTrue, refl, sym, ap, ◌∙◌}
use Rattle.std.proofs.lemmas.Bool.{and_parts}
use Rattle.std.specs.List.{list_all}
use Rattle.lr_text.specs.Words.{lacks}
use Rattle.lr_text.proofs.WordLaws.{lacks-cons}
use Rattle.lr_names.specs.Name.{is_name_byte, IsName}

name_bytes-lack : (byte : ℕ) (text : List ℕ) → is_name_byte byte ≡ false
    → IsTrue (list_all is_name_byte text) → IsTrue (lacks byte text)
name_bytes-lack byte [] other h = refl
name_bytes-lack byte (b ∷ bs) other h =
    let parts = and_parts (is_name_byte b) (list_all is_name_byte bs) h in
    let differs : b ≢ byte = λ e. true≢false (sym parts.0 ∙ ap is_name_byte e ∙ other) in
    lacks-cons byte b bs differs (name_bytes-lack byte bs other parts.1)

-- a name lacks each byte that is no letter, no digit, and none of `_`, `.` and `-`
pub name-lacks : (byte : ℕ) (name : List ℕ) → is_name_byte byte ≡ false → IsName name
    → IsTrue (lacks byte name)
name-lacks byte name other h = name_bytes-lack byte name other h.bytes
