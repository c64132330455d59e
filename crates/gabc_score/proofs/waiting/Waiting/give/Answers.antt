use Rattle.std.proofs.Common.{◌≡◌, ℕ, ◌-◌, List, length, ap, subst, ◌∙◌, arith, length-append}
use Rattle.std.specs.Str.{IsCharBoundary}
use Rattle.std.proofs.lemmas.Str.{IsCharBoundary-at_seam}
use Rattle.gabc_score.specs.machine.Run.{HasFront}
use Rattle.gabc_score.proofs.waiting.Waiting.give.Goals as goal

front_len : (text front : List ℕ) (left : ℕ) → HasFront text front left → length front ≡ length text - left
front_len text front left h = let n = ap (λ (t : List ℕ). length t) h.is ∙ length-append front h.back in let l = h.left_is in omega (arith, n, l)

pub split_at-requires : goal.split_at-requires
split_at-requires g c =
    let front = c.requires.front in
    subst (IsCharBoundary c.args.self.text.now) (front_len c.args.self.text.now front.0 c.args.left front.1) (IsCharBoundary-at_seam c.args.self.text.now front.0 front.1.back front.1.is front.1.utf8)
