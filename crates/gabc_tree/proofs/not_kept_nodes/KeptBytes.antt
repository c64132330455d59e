-- Characters of one byte that are kept, one after the other.
use Rattle.std.proofs.Common.{◌≡◌, ◌+◌, ◌<◌, ℕ, List, ◌∷◌, ◌++◌, length, drop, drop-cons, get_or, sym, ap, ◌∙◌, arith, Option, None, IsUtf8}
use Rattle.std.specs.Char.{len_utf8}
use Rattle.std.specs.Str.{chars, IsCharBoundary}
use Rattle.std.proofs.lemmas.Grind.{common_steps}
use Rattle.std.proofs.lemmas.Str.{chars_past_char, encode_ascii, IsUtf8-drop, IsCharBoundary-after_ascii}
use Rattle.gabc_nodes.specs.declared.kind.Kind.{Kind}
use Rattle.gabc_tree.specs.NotKept.{Reached, nodes_from, nodes_by, out_of, past}

-- what is kept is no node
one_kept : (s : Reached) (c : ℕ) (cs : List ℕ) → out_of s c ≡ None → nodes_from s (c ∷ cs) ≡ nodes_from (past s c) cs
one_kept s c cs e = ap (λ (o : Option (Kind × ℕ)). nodes_by o s.byte (s.byte + len_utf8 c) ++ nodes_from (past s c) cs) e

module _ (text : List ℕ) (i : ℕ) (utf8 : IsUtf8 text) (within : i < length text) (low : get_or text i 0 < 128) where
  pub boundary_after : IsCharBoundary text (i + 1)
  boundary_after = IsCharBoundary-after_ascii text i utf8 within low

  cut : drop i text ≡ get_or text i 0 ∷ drop (i + 1) text
  cut = grind (arith, common_steps, drop-cons)

  first_byte : IsCharBoundary text i → chars (drop i text) ≡ get_or text i 0 ∷ chars (drop (i + 1) text)
  first_byte at =
      chars_past_char (drop i text) (drop (i + 1) text) (get_or text i 0) (IsUtf8-drop text i utf8 at)
      (cut ∙ ap (λ (bytes : List ℕ). bytes ++ drop (i + 1) text) (sym (encode_ascii (get_or text i 0) low)))

  pub byte_passed : (s after : Reached) → IsCharBoundary text i → out_of s (get_or text i 0) ≡ None → after ≡ past s (get_or text i 0)
      → nodes_from after (chars (drop (i + 1) text)) ≡ nodes_from s (chars (drop i text))
  byte_passed s after at e is =
      ap (λ (r : Reached). nodes_from r (chars (drop (i + 1) text))) is
      ∙ (sym (one_kept s (get_or text i 0) (chars (drop (i + 1) text)) e) ∙ ap (λ (cs : List ℕ). nodes_from s cs) (sym (first_byte at)))
