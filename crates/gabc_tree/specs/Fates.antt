-- What is not kept of a body, by what becomes of each character in the reading by what is kept.
use Rattle.std.specs.Prelude.{◌≡◌, ◌⊎◌, ℕ, List, [], ◌∷◌, ◌++◌, Bool, true, false, cond, not, ◌&&◌, ◌==◌, nat_le, length, map, take, drop, Option, Some, None, is_some, Ok}
use Rattle.gabc_places.specs.Fate.{Fate, Keep, Comment, Ends, LeaveOut}
use Rattle.std.specs.List.{All}
use Rattle.gabc_places.specs.declared.code.Code.{Code}
use Rattle.gabc_places.specs.declared.code.Code.TheVariants.{E1, E2, E3}
use Rattle.gabc_places.specs.declared.code.Finding.{Finding}
use Rattle.gabc_places.specs.declared.limits.Limits.{Limits}
use Rattle.gabc_places.specs.declared.place.Char.{Char}
use Rattle.gabc_places.specs.Place.{placed_characters}
use Rattle.gabc_places.specs.Text.{decoded_of, read_as, text_of_characters, utf8_prefix_of}
use Rattle.gabc_headers.specs.Book.{nabc_lines_of, macros_of}
use Rattle.gabc_headers.specs.Heads.{heads_of}
use Rattle.gabc_headers.specs.declared.heads.Heads.{Heads}
use Rattle.gabc_text.specs.Token.{is_blank}
use Rattle.gabc_body.specs.ReadAlone.{read_of}
use Rattle.gabc_body.specs.Reading as read
use Rattle.gabc_body.specs.Reading.{Part, InText, InNotes, BodyRead, fate_by, whole_of}
use Rattle.gabc_body.specs.Score.{heads_text, score_of}
use Rattle.gabc_nodes.specs.declared.kind.Kind.{Kind}
use Rattle.gabc_nodes.specs.declared.kind.Kind.TheVariants as kind
use Rattle.gabc_tree.specs.CodeNumber.{number_of_code}
use Rattle.gabc_tree.specs.HeaderNodes.{head_end}
use Rattle.gabc_tree.specs.NotKept.{Reached, begun, past, is_silent, out_of}
use Rattle.gabc_tree.specs.Tree.{ending_by, characters_before, kept_characters}

-- what becomes of the character: a comment goes on up to an LF
abbrev pub fate_at : ℕ → BodyRead → Char → Fate
fate_at lines b x = cond (b.reading.comment && not (x.c == 10)) Comment (fate_by lines b.reading.part b.reading.kept x.c)

abbrev pub ends : Fate → Bool
ends Ends = true
ends _ = false

-- what is kept of the part that is being read at its end, if these characters are to come
abbrev pub kept_at_end : ℕ → ℕ → BodyRead → List Char → List ℕ
kept_at_end lines macros b [] = b.reading.kept
kept_at_end lines macros b (x ∷ xs) = cond (ends (fate_at lines b x)) b.reading.kept (kept_at_end lines macros (read.past lines macros b x) xs)

-- Of a snippet an unfinished end is cut where it ends: a character that is kept after this text
-- goes with it, if all this is kept there.
abbrev pub is_cut_by : Part → List ℕ → List ℕ → Bool
is_cut_by InText kept all = false
is_cut_by (InNotes line) kept all = nat_le (length (whole_of line all)) (length kept)

-- a character that is kept here is cut
abbrev pub is_cut : ℕ → ℕ → BodyRead → Char → List Char → Bool
is_cut lines macros b x xs = is_cut_by b.reading.part b.reading.kept (kept_at_end lines macros b (x ∷ xs))

-- the kind and the number of a character with this fate, if it is not kept
abbrev pub out_by_fate : Bool → Fate → Option (Kind × ℕ)
out_by_fate cut Keep = cond cut (Some (kind.LeftOut, 106)) None
out_by_fate cut Comment = Some (kind.Comment, 0)
out_by_fate cut Ends = None
out_by_fate cut (LeaveOut None) = Some (kind.FurtherBlank, 0)
out_by_fate cut (LeaveOut (Some code)) = Some (kind.LeftOut, number_of_code code)

-- the kind and the number of the character at this state of the reading, before these characters
abbrev pub out_by_reading : ℕ → ℕ → BodyRead → Char → List Char → Option (Kind × ℕ)
out_by_reading lines macros b x xs = out_by_fate (is_cut lines macros b x xs) (fate_at lines b x)

-- ---- of an input

-- the state of the going over an input after these characters
abbrev pub reached_after : Reached → List ℕ → Reached
reached_after s [] = s
reached_after s (c ∷ cs) = reached_after (past s c) cs

-- what is read of the first n characters of a text, the first of which are its headers'
abbrev pub read_first : ℕ → ℕ → ℕ → List Char → ℕ → BodyRead
read_first lines macros heads xs n = read_of lines macros read.begun (drop heads (take n xs))

-- Law: as long as a character of the syllables is still to come, a character of the input that is
-- shown is what the reading makes of it.
abbrev pub IsWhatIsRead : Limits → List ℕ → Type 0
IsWhatIsRead limits bytes =
    let decoded = decoded_of limits true bytes in
    let text = decoded.text in
    let score = score_of limits (ending_by decoded.fault) text in
    (heads : Heads) (before after : List ℕ) (c : ℕ) (x : Char) (xs : List Char) → heads_of limits text ≡ Ok heads
    → utf8_prefix_of (take limits.input bytes) ≡ before ++ c ∷ after
    → let count = characters_before heads.body text in
    let s = reached_after (begun count (kept_characters score.syllables) score.findings) before in
    let n = length (text_of_characters before) in
    s.heads ≡ 0 → (s.kept ≡ [] → ⊥) → is_silent s c ≡ false → drop n (placed_characters text) ≡ x ∷ xs
    → out_of s c ≡ out_by_reading (nabc_lines_of heads.book) (macros_of heads.book) (read_first (nabc_lines_of heads.book) (macros_of heads.book) count (placed_characters text) n) x xs

-- Law: each character that is kept of the syllables is found in the input.
abbrev pub AllAreFound : Limits → List ℕ → Type 0
AllAreFound limits bytes =
    let decoded = decoded_of limits true bytes in
    let score = score_of limits (ending_by decoded.fault) decoded.text in
    (reached_after (begun (characters_before (head_end limits decoded.text) decoded.text) (kept_characters score.syllables) score.findings) (utf8_prefix_of (take limits.input bytes))).kept ≡ []

-- a blank as U+0020
abbrev pub spaced : ℕ → ℕ
spaced c = cond (is_blank c) 32 c

-- what is left of these characters without what is not kept, from this state of the going over on
abbrev pub left_of : Reached → List ℕ → List ℕ
left_of s [] = []
left_of s (c ∷ cs) = cond (is_some (out_of s c)) (left_of (past s c) cs) (read_as c ∷ left_of (past s c) cs)

-- Law: without what is not kept, an input is the text of its headers, then the kept texts of the
-- syllables, one after the other, and then what comes after them, each blank as U+0020.
pub record IsKeptText (limits : Limits) (bytes : List ℕ) (heads : Heads) : Type 0 where
  pub tail : List ℕ
  pub is :
      let decoded = decoded_of limits true bytes in
      let score = score_of limits (ending_by decoded.fault) decoded.text in
      let s = begun (characters_before heads.body decoded.text) (kept_characters score.syllables) score.findings in
      map spaced (left_of s (utf8_prefix_of (take limits.input bytes))) ≡ map spaced (heads_text decoded.text ++ (kept_characters score.syllables ++ tail))

-- ---- findings

-- a finding of that code is about a character that is left out
abbrev pub is_error : Code → Bool
is_error E1 = true
is_error E2 = true
is_error E3 = true
is_error _ = false

-- A character of the input is at the place of the finding. It is left out with its code, if a
-- character of the syllables is still to come there.
pub record IsLeftOutThere (limits : Limits) (bytes : List ℕ) (heads : Heads) (f : Finding) : Type 0 where
  pub before : List ℕ
  pub after : List ℕ
  pub c : ℕ
  pub parts : utf8_prefix_of (take limits.input bytes) ≡ before ++ c ∷ after
  pub there :
      let decoded = decoded_of limits true bytes in
      let score = score_of limits (ending_by decoded.fault) decoded.text in
      let s = reached_after (begun (characters_before heads.body decoded.text) (kept_characters score.syllables) score.findings) before in
      (s.place ≡ f.place) × ((s.kept ≡ []) ⊎ (out_of s c ≡ Some (kind.LeftOut, number_of_code f.code)))

-- Law: what is found to be left out is so where it is found.
abbrev pub AreLeftOutThere : Limits → List ℕ → Type 0
AreLeftOutThere limits bytes =
    let decoded = decoded_of limits true bytes in
    let score = score_of limits (ending_by decoded.fault) decoded.text in
    (heads : Heads) → heads_of limits decoded.text ≡ Ok heads
    → All (λ (f : Finding). is_error f.code ≡ true → IsLeftOutThere limits bytes heads f) score.findings
