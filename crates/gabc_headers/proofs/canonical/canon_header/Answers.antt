use Rattle.std.proofs.Common.{ap, sym, ◌∙◌, List, ℕ, encode_utf8_all}
use Rattle.std.specs.Str.{chars}
use Rattle.gabc_headers.specs.Canonical.{canonical_heads}
use Rattle.gabc_headers.proofs.canonical_form.HeaderBytes.{heads_left}
use Rattle.gabc_headers.proofs.canonical.canon_header.Goals as goal

pub loop-name-preserved : goal.loop-name-preserved
loop-name-preserved g c =
    let lines = heads_left (chars c.in-Some.name.now, chars c.in-Some.value.now) c.next.new.self in
    let ahead = ap (λ (book : List (List ℕ × List ℕ)). encode_utf8_all (canonical_heads book)) (sym c.in-Some.ensures.steps) in
    rw c.put_header.ensures (g.met.S.Put.taken_both _ _ _ ∙ ap (g.S.Put.taken c.loop-name.out) (lines ∙ ahead) ∙ c.loop-name.invariant)
