-- The reading of a snippet in which nothing was found yet.
use Rattle.std.specs.Prelude.{ℕ, List, [], ◌∷◌, Bool, true, false, codes, not, ◌&&◌, ◌||◌, ◌==◌, if◌then◌else◌, Option, Some, None, is_some}
use Rattle.std.specs.List.{list_all}
use Rattle.gabc_patterns.specs.Pattern.{is_in}
use Rattle.gabc_notes.specs.machine.CharClass.{class_of_character}
use Rattle.gabc_notes.specs.machine.ItemMachine.{attribute_state, digit_of_prefix, next_state, prefix_with, raw_state, whole_at}
use Rattle.gabc_notes.specs.witness.StageEvents.{macro_digit}
use Rattle.gabc_notes.specs.declared.macro_prefix.MacroPrefix.{MacroPrefix}
use Rattle.gabc_notes.specs.declared.macro_prefix.MacroPrefix.TheVariants.{Closed, Opened}
use Rattle.gabc_notes.specs.declared.regular.RegularPoint.{RegularPoint}
use Rattle.gabc_notes.specs.declared.state.FullItem.TheVariants.{Attribute, Spacing}
use Rattle.gabc_notes.specs.declared.state.ItemState.{ItemState}
use Rattle.gabc_notes.specs.declared.state.ItemState.TheVariants.{Start, Body, Pitch, ClefPitch, SlashRaw, Done}

-- The state of the reading: its item, what the open bracket holds, and whether an `@[` is open.
pub record RegularState : Type 0 where
  pub item : ItemState
  pub name : MacroPrefix
  pub fused : Bool

-- if no macro is defined, a warning comes with the character c, which brings the item to z
abbrev pub warns_at : RegularState → ItemState → ℕ → Bool
warns_at r z c =
    if raw_state r.item then attribute_state z && is_some (digit_of_prefix r.name)
    else ((c == 91) && (not (raw_state z) && r.fused)) || ((c == 93) && not r.fused)

-- the state after the character c, which brings the item to z without a warning
abbrev pub regular_at : RegularState → ItemState → ℕ → RegularState
regular_at r z c = record {
  item = z;
  name = if raw_state z then prefix_with r.name c else Closed;
  fused = if raw_state r.item || raw_state z then r.fused else ((c == 91) || (r.fused && not (c == 93)));
}

abbrev pub regular_by : RegularState → ℕ → Option ItemState → Option RegularState
regular_by r c None = None
regular_by r c (Some z) = if warns_at r z c then None else Some (regular_at r z c)

-- the state after a character, if it is kept and nothing is found at it
abbrev pub regular_after : RegularState → ℕ → Option RegularState
regular_after r c = regular_by r c (next_state r.item (class_of_character c))

abbrev pub ends_regularly : RegularState → Bool
ends_regularly r = whole_at r.item && not r.fused

-- the number of bytes of the longest regular prefix, if this is the state after `read` bytes, and
-- it had `before` bytes before
abbrev pub longest_at : RegularState → ℕ → ℕ → ℕ
longest_at r read before = if ends_regularly r then read else before

-- ---- the state that the code has, outside brackets and after one was opened

abbrev pub reading_at : RegularPoint → RegularState
reading_at p = record { item = p.item; name = if raw_state p.item then Opened else Closed; fused = p.fused }

-- after the `]` of the bracket that was opened
abbrev pub closed_item : ItemState → ItemState
closed_item SlashRaw = Done Spacing
closed_item _ = Done Attribute

abbrev pub closed_point : RegularPoint → RegularPoint
closed_point p = record p { item = closed_item p.item }

-- a bracket continues with it
abbrev pub is_inside : ℕ → Bool
is_inside c = not (c == 93)

-- an attribute that holds it names a macro
abbrev pub is_macro : List ℕ → Bool
is_macro t = is_some (macro_digit (91 ∷ t))

-- ---- the front that is read on a short way

-- a pitch but `b`
abbrev pub begins_front : ℕ → Bool
begins_front c = is_in c (codes "acdefghijklmnp")

-- such a pitch, or a frequent suffix or sign
abbrev pub goes_on_front : ℕ → Bool
goes_on_front c = is_in c (codes "acdefghijklmnp._'vswo")

-- the first is a pitch but `b`, and each after it such a pitch or a frequent suffix or sign
abbrev pub is_front : List ℕ → Bool
is_front [] = true
is_front (c ∷ t) = begins_front c && list_all goes_on_front t

-- the state of the item after this character of a front
abbrev pub item_at : ℕ → ItemState
item_at c = if is_in c (codes "cf") then ClefPitch else if begins_front c then Pitch else Body

abbrev pub item_from : ItemState → List ℕ → ItemState
item_from s [] = s
item_from s (c ∷ t) = item_from (item_at c) t

-- the state of the reading after a front
abbrev pub front_state : List ℕ → RegularState
front_state t = record { item = item_from Start t; name = Closed; fused = false }

-- ---- the bars that are read on a short way

-- a bar or a line break of one character, of those that a snippet often is
abbrev pub begins_bar : ℕ → Bool
begins_bar c = is_in c (codes ",:;Zz")

-- such a bar or line break, or `::`, or nothing
abbrev pub is_bar : List ℕ → Bool
is_bar [] = true
is_bar (c ∷ []) = begins_bar c
is_bar (c ∷ d ∷ []) = (c == 58) && (d == 58)
is_bar _ = false
