-- The tree of a score: the nodes of what is kept, at their places in the input, with what is not
-- kept between them.
use Rattle.std.specs.Prelude.{ℕ, ◌+◌, ◌-◌, List, [], ◌∷◌, ◌++◌, cond, ◌==◌, nat_lt, length, map, take, Option, Some, None, true}
use Rattle.std.specs.List.{flat_map}
use Rattle.std.specs.Char.{len_utf8}
use Rattle.std.specs.Str.{chars}
use Rattle.gabc_places.specs.declared.code.Fault.{Fault}
use Rattle.gabc_places.specs.declared.limits.Limits.{Limits}
use Rattle.gabc_places.specs.Text.{decoded_of, utf8_prefix_of}
use Rattle.gabc_neumes.specs.InForce.{InForce, nothing_in_force}
use Rattle.gabc_body.specs.declared.ending.InputEnding.{InputEnding}
use Rattle.gabc_body.specs.declared.ending.InputEnding.TheVariants.{Whole, At}
use Rattle.gabc_body.specs.declared.score.Score.{Score}
use Rattle.gabc_body.specs.Score.{score_of}
use Rattle.gabc_body.specs.Syllable.{PlacedSyllable}
use Rattle.gabc_nodes.specs.Node.{leaf}
use Rattle.gabc_nodes.specs.declared.kind.Kind.TheVariants.{File, Unread}
use Rattle.gabc_nodes.specs.declared.node.Node.{Node}
use Rattle.gabc_tree.specs.CodeNumber.{number_of_code}
use Rattle.gabc_tree.specs.HeaderNodes.{head_end, head_nodes}
use Rattle.gabc_tree.specs.NotKept.{not_kept}
use Rattle.gabc_tree.specs.Placed.{Reach, offset, up_to, byte_at, placed_from, reach_after, moved}
use Rattle.gabc_tree.specs.SyllableNodes.{around, syllable_nodes, force_past_syllable}

abbrev pub ending_by : Option Fault → InputEnding
ending_by None = Whole
ending_by (Some fault) = At fault

-- ---- the kept nodes

-- of syllables whose kept texts begin with that kept byte, before which this is in force
abbrev pub body_nodes : ℕ → InForce → List PlacedSyllable → List Node
body_nodes base force [] = []
body_nodes base force (s ∷ syllables) =
    map (moved base) (syllable_nodes force s) ++ body_nodes (offset (base + length s.made.kept)) (force_past_syllable force s) syllables

abbrev pub body_end : ℕ → List PlacedSyllable → ℕ
body_end base [] = base
body_end base (s ∷ syllables) = body_end (offset (base + length s.made.kept)) syllables

-- the characters that are kept of a body
abbrev pub kept_characters : List PlacedSyllable → List ℕ
kept_characters syllables = flat_map (λ (s : PlacedSyllable). chars s.made.kept) syllables

-- the number of characters that begin in the first n bytes of a text
abbrev pub characters_before : ℕ → List ℕ → ℕ
characters_before n [] = 0
characters_before n (c ∷ t) = cond (n == 0) 0 (1 + characters_before (n - len_utf8 c) t)

-- ---- the tree

-- after the last kept byte, if this is their number: what is not kept, and after a fault all
-- that is not read, of an input of that length
abbrev pub rest_of : Reach → ℕ → ℕ → Option Fault → List Node
rest_of r kept len None = r.out
rest_of r kept len (Some fault) =
    cond (nat_lt 0 kept)
    (up_to r (kept - 1) ++ leaf Unread (number_of_code fault.code) (offset (byte_at r (kept - 1) + 1)) (offset len) ∷ [])
    (leaf Unread (number_of_code fault.code) 0 (offset len) ∷ [])

abbrev pub before_all : List Node → Reach
before_all out = record { out = out; passed = 0 }

-- these kept nodes, with what is not kept, of an input of that length
abbrev pub file_nodes : List Node → List Node → ℕ → ℕ → Option Fault → List Node
file_nodes out nodes kept len fault =
    around (leaf File 0 0 (offset len)) (placed_from (before_all out) nodes ++ rest_of (reach_after (before_all out) nodes) kept len fault)

-- the score of these bytes
abbrev pub score_in : Limits → List ℕ → Score
score_in limits bytes = let decoded = decoded_of limits true bytes in score_of limits (ending_by decoded.fault) decoded.text

abbrev pub tree_nodes : Limits → List ℕ → List Node
tree_nodes limits bytes =
    let text = (decoded_of limits true bytes).text in
    let score = score_in limits bytes in
    let head = head_end limits text in
    let out = not_kept (characters_before head text) (kept_characters score.syllables) score.findings (utf8_prefix_of (take limits.input bytes)) in
    file_nodes out (map (moved 0) (head_nodes limits text) ++ body_nodes (offset head) nothing_in_force score.syllables) (body_end (offset head) score.syllables) (length bytes) score.fault
