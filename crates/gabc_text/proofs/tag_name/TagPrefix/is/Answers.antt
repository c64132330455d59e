use Rattle.std.proofs.Common.{◌≡◌, ℕ, ◌≤◌, ◌==◌, List, length, take, ap, sym, ◌∙◌, ne_eqb, length-take-le, arith}
use Rattle.std.specs.List.{list_all, zip}
use Rattle.gabc_text.proofs.machine.TagNameByCharacter.{text_by_characters, other_length}
use Rattle.gabc_text.proofs.tag_name.TagPrefix.is.Goals as goal

-- the letters that are read are as many as is counted
as_many : (letters name : List ℕ) (len most : ℕ) → take len letters ≡ name → len ≤ most → length letters ≡ most → length name ≡ len
as_many letters name len most v h e = grind (arith, length-take-le)

pub returns-then-name-self : goal.returns-then-name-self
returns-then-name-self c =
    let v = c.self.view_is in
    let same : List ℕ → List ℕ → _ = λ b l. list_all (λ (p : ℕ × ℕ). p.1 == p.0) (zip b l) in
    c.are_same.ensures ∙ ap (λ (u : List ℕ). same u (take c.self.inside.len c.self.inside.letters)) c.as_bytes.ensures.value ∙ ap (same c.args.name.now) v
    ∙ text_by_characters c.args.name.now c.args.self.now
    (c.if-name-self.true ∙ sym (as_many c.self.inside.letters c.args.self.now c.self.inside.len _ v c.self.invariant.0 c.self.invariant.1))

pub returns-else-name-self : goal.returns-else-name-self
returns-else-name-self c = grind (arith, as_many, ne_eqb, other_length)
