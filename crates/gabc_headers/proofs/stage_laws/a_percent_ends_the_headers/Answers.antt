use denote.Bor.{Bor}
use Rattle.std.proofs.Common.{◌≡◌, ℕ, List, Option, IfSome, IsSome, sym, subst, arith}
use Rattle.std.specs.Str.{chars}
use Rattle.gabc_places.specs.declared.limits.Limits.{Limits}
use Rattle.gabc_headers.specs.HeldText.{IsHeld}
use Rattle.gabc_headers.specs.witness.HeadEvents.{HeadProgress, IsInHeaders, reading}
use Rattle.gabc_headers.proofs.prefixes.LastPercent.{last_percent}
use Rattle.gabc_headers.proofs.stage_laws.a_percent_ends_the_headers.Goals as goal

text_is_held : (limits : Limits) (progress : HeadProgress) (text : Option (Bor (List ℕ))) → IsSome text → IfSome text (λ b. progress ≡ reading (chars b.now)) → IfSome text (λ b. IsHeld limits (chars b.now))
    → (t : List ℕ) → progress ≡ reading t → IsHeld limits t
text_is_held limits progress text some is held t here = grind arith

pub returns : goal.returns
returns c t x heads here whole =
    let told = c.text.ensures in
    let s = c.args.stage.now in
    let held = text_is_held s.limits s.progress c.text.result (told.in_headers.1 (subst IsInHeaders (sym here) tt)) told.text told.held t here in
    last_percent s.limits t x heads held.stopped held.heads whole
