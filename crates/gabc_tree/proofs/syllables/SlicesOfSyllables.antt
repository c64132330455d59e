-- Nodes of a syllable are those of its slices.
use Rattle.std.proofs.Common.{◌≡◌, ℕ, ◌+◌, List, [], ◌∷◌, ◌++◌, Bool, map, length, sym, ap, ◌∙◌, append-nil}
use Rattle.std.specs.Str.{chars}
use Rattle.gabc_text.specs.BuiltText.{empty_view}
use Rattle.gabc_neumes.specs.InForce.{InForce}
use Rattle.gabc_body.specs.Syllable.{PlacedSyllable}
use Rattle.gabc_body.specs.declared.snippets.Snippet.{Snippet}
use Rattle.gabc_body.specs.declared.syllable.Position.{Position}
use Rattle.gabc_nodes.specs.declared.node.Node.{Node}
use Rattle.gabc_tree.specs.Placed.{moved, offset}
use Rattle.gabc_tree.specs.SyllableNodes.{force_past_syllable, syllable_nodes}
use Rattle.gabc_tree.specs.declared.syllable_nodes.SyllableSlices.{SyllableSlices}
use Rattle.gabc_tree.specs.machine.BodyNodes.{BodyState, past_syllables}
use Rattle.gabc_tree.specs.machine.NodesOfBodies.{alike as alike_states, state}
use Rattle.gabc_tree.specs.machine.SyllableSlices.{Shows, placed_by}

abbrev made_of : List ℕ → List Snippet → Position → Bool → Bool → Bool → PlacedSyllable
made_of kept snippets position eu nlba start = record {
  made = record { text = record empty_view { word_start = start }; kept = kept; snippets = snippets; eu = eu; nlba = nlba };
  position = position;
}

alike : (b : BodyState) {j k : List ℕ} {t u : List Snippet} {p q : Position} {d e m n v w : Bool} → j ≡ k → t ≡ u → p ≡ q → d ≡ e → m ≡ n → v ≡ w
    → past_syllables b (made_of j t p d m v ∷ []) ≡ past_syllables b (made_of k u q e n w ∷ [])
alike b {j} {k} {t} {u} {p} {q} {d} {e} {m} {n} {v} {w} kept snippets position eu nlba start =
    ap (λ (x : List ℕ). past_syllables b (made_of x t p d m v ∷ [])) kept
    ∙ ap (λ (x : List Snippet). past_syllables b (made_of k x p d m v ∷ [])) snippets
    ∙ ap (λ (x : Position). past_syllables b (made_of k u x d m v ∷ [])) position
    ∙ ap (λ (x : Bool). past_syllables b (made_of k u q x m v ∷ [])) eu
    ∙ ap (λ (x : Bool). past_syllables b (made_of k u q e x v ∷ [])) nlba
    ∙ ap (λ (x : Bool). past_syllables b (made_of k u q e n x ∷ [])) start

-- by its slices
pub past_shown : (b : BodyState) (r : SyllableSlices) (s : PlacedSyllable) → Shows r s → past_syllables b (s ∷ []) ≡ past_syllables b (placed_by r ∷ [])
past_shown b r s h = alike b h.kept h.snippets h.position h.eu h.nlba h.word_start

-- one syllable more
pub one_more : (b : BodyState) (s : PlacedSyllable) (nodes : List Node) (kept : List ℕ) (base : ℕ) (force : InForce)
    → nodes ≡ b.nodes ++ map (moved b.base) (syllable_nodes b.force s) → kept ≡ b.kept ++ chars s.made.kept → base ≡ offset (b.base + length s.made.kept)
    → force ≡ force_past_syllable b.force s → state nodes kept base force ≡ past_syllables b (s ∷ [])
one_more b s nodes kept base force nodes_are kept_is base_is force_is =
    alike_states
    (nodes_are ∙ ap (λ (ns : List Node). b.nodes ++ ns) (sym (append-nil (map (moved b.base) (syllable_nodes b.force s)))))
    (kept_is ∙ ap (λ (cs : List ℕ). b.kept ++ cs) (sym (append-nil (chars s.made.kept))))
    base_is force_is
