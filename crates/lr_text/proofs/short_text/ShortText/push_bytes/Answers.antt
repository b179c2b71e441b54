use Rattle.std.proofs.Common.{◌≡◌, ℕ, ◌+◌, ◌-◌, ◌≤◌, List, length, take, drop, replicate, sym, ap, ◌∙◌, subst, arith, length-append, length-drop}
use Rattle.std.proofs.lemmas.Slice.{drop-put_mid}
use Rattle.std.proofs.lemmas.List.{drop-drop, drop-replicate, length-take-le}
use borrow.Rule.Slice.PartMut.{put_mid}
use Rattle.lr_text.specs.ShortText.{IsPadded}
use Rattle.lr_text.proofs.short_text.ShortText.push_bytes.Goals as goal

-- padded bytes with more of them written behind the first
IsPadded-put_mid : (cap len : ℕ) (bytes more : List ℕ) (k : ℕ) → IsPadded cap len bytes → length more ≡ k → len + k ≤ cap
    → IsPadded cap (len + k) (put_mid len k bytes more)
IsPadded-put_mid cap len bytes more k h size fits =
    let front = length-take-le len bytes (omega (arith, h.whole, h.within)) in
    let rest : drop (len + k) bytes ≡ replicate (cap - (len + k)) 0 = sym (drop-drop k len bytes) ∙ ap (drop k) h.zeros ∙ drop-replicate k (cap - len) 0 ∙ ap (λ n. replicate n 0) (omega arith) in
    record {
      whole = simp (length-append, length-drop) (omega (arith, front, h.whole));
      within = fits;
      zeros = drop-put_mid len k bytes more (len + k) (omega arith) (omega (arith, h.whole, h.within)) size ∙ rest;
    }

-- the same where the bytes before are known as a text
IsPadded-pushed : (cap len : ℕ) (bytes text more part : List ℕ) → IsPadded cap len bytes → take len bytes ≡ text
    → length text + length more ≤ cap → part ≡ more → IsPadded cap (len + length more) (put_mid len (len + length more - len) bytes part)
IsPadded-pushed cap len bytes text more part h is fits same =
    let front = length-take-le len bytes (omega (arith, h.whole, h.within)) in
    let grown = IsPadded-put_mid cap len bytes part (length more) h (ap length same) (omega (arith, front, ap length is)) in
    subst (λ (k : ℕ). IsPadded cap (len + length more) (put_mid len k bytes part)) (omega arith) grown

pub invariant_of-self : goal.invariant_of-self
invariant_of-self g c =
    IsPadded-pushed g.row.CAP c.self.inside.len c.self.inside.bytes c.args.self.now c.args.bytes.now c.copy_from_slice.new.self c.self.invariant c.self.view_is c.requires c.copy_from_slice.ensures.after
