-- What is said of a text, when a character stands after it.
use Rattle.std.proofs.Common.{◌≡◌, ℕ, ◌-◌, List, [], ◌∷◌, ◌++◌, Bool, true, false, cond, not, ◌&&◌, ◌||◌, sym, ap, ◌∙◌, length, take, drop, append_assoc, append-nil, length-append, arith}
use Rattle.std.proofs.lemmas.List.Folds.{list_any-append}
use Rattle.std.proofs.Math.Seq.{take-append_seam, drop-append_seam}
use Rattle.std.proofs.lemmas.Str.{encodes-append, length-encode}
use Rattle.std.proofs.Math.Bool.{or-false}
use Rattle.gabc_patterns.specs.LongestItems.{Table}
use Rattle.gabc_patterns.specs.Derivative.{is_snippet, is_viable}
use Rattle.gabc_patterns.specs.Function.{keep, trim, trim_from}
use Rattle.gabc_patterns.proofs.FunctionsMeetRelations.{keep_append}
use Rattle.gabc_nabc.specs.Table.{nabc}
use Rattle.gabc_nabc.specs.Events.{in_comment, is_character, is_end, characters_after, has_end_after, has_end, kept_of, last_of, before_last, bytes_in}
use Rattle.gabc_nabc.specs.witness.DescriptorMachine.{comment_in}
use Rattle.gabc_notes.specs.witness.StageEvents.{count_plus}

comment_step : (percent feed later has opened : Bool) → (percent && not (has || (feed || false))) || (later || (opened && not feed)) ≡ later || (((percent && not has) || opened) && not feed)
comment_step percent feed later has opened = grind arith

-- whether a comment is open
pub comment_more : (t : List ℕ) (c : ℕ) → in_comment (t ++ c ∷ []) ≡ comment_in (in_comment t) c
comment_more [] c = grind arith
comment_more (d ∷ t) c = grind (arith, list_any-append, comment_step, comment_more t c)

or_assoc : (a b c : Bool) → (a || (b || c)) ≡ ((a || b) || c)
or_assoc a b c = grind arith

-- whether it has an end
end_from : (s cs : List ℕ) (c : ℕ) → has_end_after s (cs ++ c ∷ []) ≡ has_end_after s cs || is_end (s ++ cs) c
end_from s [] c = or-false (is_end s c) ∙ ap (λ (t : List ℕ). is_end t c) (sym (append-nil s))
end_from s (d ∷ cs) c = simp (append_assoc, or_assoc, end_from (s ++ d ∷ []) cs c)

pub end_more : (t : List ℕ) (c : ℕ) → has_end (t ++ c ∷ []) ≡ has_end t || is_end t c
end_more t c = end_from [] t c

-- its characters
characters_from : (s cs : List ℕ) (c : ℕ) → characters_after s (cs ++ c ∷ []) ≡ cond (is_character (s ++ cs) c) (characters_after s cs ++ c ∷ []) (characters_after s cs)
characters_from s [] c = ap (λ (t : List ℕ). cond (is_character t c) (c ∷ []) []) (sym (append-nil s))
characters_from s (d ∷ cs) c = grind (arith, append_assoc, characters_from (s ++ d ∷ []) cs c)

-- what is kept of it, after a character of the snippet
pub kept_more : (t : List ℕ) (c : ℕ) → is_character t c ≡ true → kept_of (t ++ c ∷ []) ≡ cond (is_viable nabc (kept_of t ++ c ∷ [])) (kept_of t ++ c ∷ []) (kept_of t)
kept_more t c e = grind (arith, characters_from, keep_append)

-- and after another
pub kept_same : (t : List ℕ) (c : ℕ) → is_character t c ≡ false → kept_of (t ++ c ∷ []) ≡ kept_of t
kept_same t c e = ap (keep nabc) (characters_from [] t c ∙ ap (λ (b : Bool). cond b (characters_after [] t ++ c ∷ []) (characters_after [] t)) e)

trim_append : {K : Type 0} (rows : Table K) (best before s t : List ℕ) → trim_from rows best before (s ++ t) ≡ trim_from rows (trim_from rows best before s) (before ++ s) t
trim_append rows best before [] t = ap (λ (u : List ℕ). trim_from rows best u t) (sym (append-nil before))
trim_append rows best before (c ∷ s) t =
    trim_append rows (cond (is_snippet rows (before ++ c ∷ [])) (before ++ c ∷ []) best) (before ++ c ∷ []) s t
    ∙ ap (λ (u : List ℕ). trim_from rows (trim_from rows (cond (is_snippet rows (before ++ c ∷ [])) (before ++ c ∷ []) best) (before ++ c ∷ []) s) u t) (append_assoc before (c ∷ []) s)

-- its longest prefix that is a snippet
pub trim_more : (u : List ℕ) (c : ℕ) → trim nabc (u ++ c ∷ []) ≡ cond (is_snippet nabc (u ++ c ∷ [])) (u ++ c ∷ []) (trim nabc u)
trim_more u c = trim_append nabc [] [] u (c ∷ [])

prefix_long : (u : List ℕ) (c : ℕ) → length (u ++ c ∷ []) - 1 ≡ length u
prefix_long u c = omega (arith, length-append u (c ∷ []))

-- its last character, and what stands before that
pub last_is : (u : List ℕ) (c : ℕ) → last_of (u ++ c ∷ []) ≡ c ∷ []
last_is u c = ap (λ (n : ℕ). drop n (u ++ c ∷ [])) (prefix_long u c) ∙ drop-append_seam u (c ∷ [])

pub before_last_is : (u : List ℕ) (c : ℕ) → before_last (u ++ c ∷ []) ≡ u
before_last_is u c = ap (λ (n : ℕ). take n (u ++ c ∷ [])) (prefix_long u c) ∙ take-append_seam u (c ∷ [])

-- its bytes
pub bytes_more : (u : List ℕ) (c : ℕ) → bytes_in (u ++ c ∷ []) ≡ count_plus (bytes_in u) c
bytes_more u c = grind (arith, encodes-append, append-nil, length-append, length-encode)
