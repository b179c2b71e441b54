-- What the next call on a stream answers.
use Rattle.std.specs.Prelude.{◌≡◌, ℕ, ◌+◌, ◌-◌, ◌%◌, ◌^◌, length}
use Rattle.lr_resp.specs.declared.decoder.Decoded.{Decoded}
use Rattle.lr_resp.specs.declared.decoder.Decoded.TheVariants as decoded
use Rattle.lr_resp.specs.Stream.{Stream, read, Part, Whole, Broken}

abbrev pub NextIs : Decoded → Stream → Stream → Type 0
NextIs (decoded.Frame frame) old new =
    (read old.unread ≡ Whole frame new.unread)
    × (new.past ≡ (old.past + (length old.unread - length new.unread)) % 2 ^ 64)
NextIs decoded.More old new = (read old.unread ≡ Part) × (new ≡ old)
NextIs (decoded.Broken place cause) old new =
    (offset : ℕ) × (read old.unread ≡ Broken offset cause) × (place ≡ (old.past + offset) % 2 ^ 64)
    × (new ≡ old)
