-- Nodes of syllables in two parts.
use Rattle.std.proofs.Common.{◌≡◌, ℕ, List, [], ◌∷◌, ◌+◌, ◌++◌, length, map, refl, sym, ap, ◌∙◌, append_assoc, append-nil}
use Rattle.std.specs.Str.{chars}
use Rattle.std.proofs.lemmas.Grind.{flat_map-append}
use Rattle.gabc_neumes.specs.InForce.{InForce}
use Rattle.gabc_body.specs.Syllable.{PlacedSyllable}
use Rattle.gabc_nodes.specs.declared.node.Node.{Node}
use Rattle.gabc_tree.specs.Placed.{moved, offset}
use Rattle.gabc_tree.specs.SyllableNodes.{force_past_syllable, syllable_nodes}
use Rattle.gabc_tree.specs.Tree.{body_nodes, body_end, kept_characters}
use Rattle.gabc_tree.specs.machine.BodyNodes.{BodyState, force_past_syllables, past_syllables}

nodes_both : (base : ℕ) (force : InForce) (ss more : List PlacedSyllable)
    → body_nodes base force (ss ++ more) ≡ body_nodes base force ss ++ body_nodes (body_end base ss) (force_past_syllables force ss) more
nodes_both base force [] more = refl
nodes_both base force (s ∷ ss) more =
    let made = map (moved base) (syllable_nodes force s) in
    let next = offset (base + length s.made.kept) in
    let after = force_past_syllable force s in
    ap (λ (ns : List Node). made ++ ns) (nodes_both next after ss more)
    ∙ sym (append_assoc made (body_nodes next after ss) (body_nodes (body_end next ss) (force_past_syllables after ss) more))

end_both : (base : ℕ) (ss more : List PlacedSyllable) → body_end base (ss ++ more) ≡ body_end (body_end base ss) more
end_both base [] more = refl
end_both base (s ∷ ss) more = end_both (offset (base + length s.made.kept)) ss more

force_both : (force : InForce) (ss more : List PlacedSyllable) → force_past_syllables force (ss ++ more) ≡ force_past_syllables (force_past_syllables force ss) more
force_both force [] more = refl
force_both force (s ∷ ss) more = force_both (force_past_syllable force s) ss more

abbrev pub state : List Node → List ℕ → ℕ → InForce → BodyState
state nodes kept base force = record { nodes = nodes; kept = kept; base = base; force = force }

pub alike : {m n : List Node} {j k : List ℕ} {a b : ℕ} {f g : InForce} → m ≡ n → j ≡ k → a ≡ b → f ≡ g → state m j a f ≡ state n k b g
alike {m} {n} {j} {k} {a} {b} {f} {g} nodes kept base force =
    ap (λ (x : List Node). state x j a f) nodes ∙ ap (λ (x : List ℕ). state n x a f) kept ∙ ap (λ (x : ℕ). state n k x f) base ∙ ap (λ (x : InForce). state n k b x) force

pub past_none : (b : BodyState) → past_syllables b [] ≡ b
past_none b = alike (append-nil b.nodes) (append-nil b.kept) refl refl

pub past_both : (b : BodyState) (ss more : List PlacedSyllable) → past_syllables (past_syllables b ss) more ≡ past_syllables b (ss ++ more)
past_both b ss more =
    let here = body_nodes b.base b.force ss in
    let there = body_nodes (body_end b.base ss) (force_past_syllables b.force ss) more in
    alike
    (append_assoc b.nodes here there ∙ ap (λ (ns : List Node). b.nodes ++ ns) (sym (nodes_both b.base b.force ss more)))
    (append_assoc b.kept (kept_characters ss) (kept_characters more)
    ∙ ap (λ (cs : List ℕ). b.kept ++ cs) (sym (flat_map-append (λ (s : PlacedSyllable). chars s.made.kept) ss more)))
    (sym (end_both b.base ss more))
    (sym (force_both b.force ss more))
