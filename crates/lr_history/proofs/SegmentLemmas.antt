-- Lists of one length, end to end.
use Rattle.std.proofs.Common.{◌≡◌, ℕ, ◌+◌, ◌-◌, ◌*◌, ◌/◌, ◌%◌, ◌<◌, ◌≤◌, List, [], ◌∷◌, ◌++◌, length, get_or, zero, suc, refl, ap, ◌∙◌, arith, append_assoc, append-nil, length-append, zero-add}
use Rattle.std.specs.List.{slice_get, All, flat_map}
use Rattle.std.proofs.lemmas.List.Elements.{All-head, All-tail}
use Rattle.std.proofs.lemmas.List.Concat.{flat_map-append}
use Rattle.lr_model.specs.declared.entry.Entry.{Entry}
use Rattle.lr_history.specs.declared.TheConstants.{SEGMENT_ENTRIES}
use Rattle.lr_history.specs.Segments.{IsFull, entries_of}

-- the entries of all these segments
abbrev pub entries_in : List (List Entry) → List Entry
entries_in segments = flat_map (λ segment. segment) segments

pub slice_get-append_left : {A : Type 0} (xs ys : List A) (k : ℕ) → k < length xs
    → slice_get (xs ++ ys) k ≡ slice_get xs k
slice_get-append_left [] ys k h = absurd (omega arith)
slice_get-append_left (x ∷ xs) ys zero h = refl
slice_get-append_left (x ∷ xs) ys (suc k) h = slice_get-append_left xs ys k (omega arith)

pub slice_get-append_right : {A : Type 0} (xs ys : List A) (k : ℕ)
    → slice_get (xs ++ ys) (length xs + k) ≡ slice_get ys k
slice_get-append_right [] ys k = rw zero-add
slice_get-append_right (x ∷ xs) ys k =
    let e : length (x ∷ xs) + k ≡ suc (length xs + k) = omega arith in
    rw e (slice_get-append_right xs ys k)

-- so many full segments have so many times the entries of one
pub length-entries_in : (full : List (List Entry)) → All IsFull full
    → length (entries_in full) ≡ length full * SEGMENT_ENTRIES
length-entries_in [] h = omega arith
length-entries_in (segment ∷ full) h =
    let here : length segment ≡ SEGMENT_ENTRIES = All-head IsFull segment full h in
    let rest = length-entries_in full (All-tail IsFull segment full h) in
    omega (arith, here, rest, length-append segment (entries_in full))

-- the j-th entry of the i-th of them
pub slice_get-entries_in : (full : List (List Entry)) (last : List Entry) (i j : ℕ) (d : List Entry)
    → All IsFull full → i < length full → j < SEGMENT_ENTRIES
    → slice_get (entries_in full ++ last) (i * SEGMENT_ENTRIES + j) ≡ slice_get (get_or full i d) j
slice_get-entries_in [] last i j d h before within = absurd (omega arith)
slice_get-entries_in (segment ∷ full) last zero j d h before within =
    let here : length segment ≡ SEGMENT_ENTRIES = All-head IsFull segment full h in
    let e : 0 * SEGMENT_ENTRIES + j ≡ j = omega arith in
    let inside : j < length segment = omega arith in
    rw (append_assoc, e) (slice_get-append_left segment (entries_in full ++ last) j inside)
slice_get-entries_in (segment ∷ full) last (suc i) j d h before within =
    let here : length segment ≡ SEGMENT_ENTRIES = All-head IsFull segment full h in
    let at : ℕ = i * SEGMENT_ENTRIES + j in
    let e : suc i * SEGMENT_ENTRIES + j ≡ length segment + at = omega arith in
    let others = All-tail IsFull segment full h in
    let rest = slice_get-entries_in full last i j d others (omega arith) within in
    rw (append_assoc, e) (slice_get-append_right segment (entries_in full ++ last) at ∙ rest)

-- how many entries full segments and the last one hold
pub length-entries_of : (full : List (List Entry)) (last : List Entry) → All IsFull full
    → length (entries_of full last) ≡ length full * SEGMENT_ENTRIES + length last
length-entries_of full last h =
    omega (arith, length-append (entries_in full) last, length-entries_in full h)

-- an entry of a full segment
pub slice_get-full : (full : List (List Entry)) (last : List Entry) (place : ℕ) (d : List Entry)
    → All IsFull full → place < length full * SEGMENT_ENTRIES
    → slice_get (entries_of full last) place
    ≡ slice_get (get_or full (place / SEGMENT_ENTRIES) d) (place % SEGMENT_ENTRIES)
slice_get-full full last place d h before =
    let i : ℕ = place / SEGMENT_ENTRIES in
    let j : ℕ = place % SEGMENT_ENTRIES in
    let e : place ≡ i * SEGMENT_ENTRIES + j = omega arith in
    ap (λ k. slice_get (entries_of full last) k) e
    ∙ slice_get-entries_in full last i j d h (omega arith) (omega arith)

-- an entry of the last segment, or none
pub slice_get-last : (full : List (List Entry)) (last : List Entry) (place : ℕ)
    → All IsFull full → length full * SEGMENT_ENTRIES ≤ place
    → slice_get (entries_of full last) place
    ≡ slice_get last (place - length full * SEGMENT_ENTRIES)
slice_get-last full last place h behind =
    let rest : ℕ = place - length full * SEGMENT_ENTRIES in
    let e : place ≡ length (entries_in full) + rest = omega (arith, length-entries_in full h) in
    ap (λ k. slice_get (entries_of full last) k) e
    ∙ slice_get-append_right (entries_in full) last rest

-- the last segment goes to the full ones, and the entry opens a new one
pub entries_of-opened : (full : List (List Entry)) (last : List Entry) (entry : Entry)
    → entries_of (full ++ last ∷ []) (entry ∷ []) ≡ entries_of full last ++ entry ∷ []
entries_of-opened full last entry = simp (flat_map-append, append-nil, append_assoc)
