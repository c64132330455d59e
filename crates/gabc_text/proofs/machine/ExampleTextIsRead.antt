-- The text that a state stands for is what was read of a token, in that state.
use Rattle.std.proofs.Common.{◌≡◌, ℕ, ◌-◌, ◌≤◌, ◌==◌, nat_lt, List, [], ◌∷◌, ◌++◌, Bool, true, false, cond, refl, ap, length, min, take, arith, codes}
use Rattle.std.proofs.lemmas.Bool.{ltb-true, ltb-false}
use Rattle.gabc_text.specs.declared.token.RawKind.{RawKind}
use Rattle.gabc_text.specs.declared.token.RawKind.TheVariants.{V, Sp, Alt}
use Rattle.gabc_text.specs.declared.token_state.TokenState.{TokenState}
use Rattle.gabc_text.specs.declared.token_state.TokenState.TheVariants.{Comment, Tag, Raw, Translation}
use Rattle.gabc_text.specs.declared.token_state.Step.{Step}
use Rattle.gabc_text.specs.declared.text_facts.TextFacts.{TextFacts}
use Rattle.gabc_text.specs.declared.progress.Progress.{Progress}
use Rattle.gabc_text.specs.declared.stage.TextStage.{TextStage}
use Rattle.gabc_text.specs.Token.{ending_of, effect_of}
use Rattle.gabc_text.specs.machine.TokenState.{wanted_char, step_in_raw}
use Rattle.gabc_text.specs.machine.TextStage.{push_stage, events_of_push}
use Rattle.gabc_text.specs.ExampleTexts.{name_so_far, stands_for}
use Rattle.gabc_text.proofs.machine.EventsStepByStep.{stepwise, stepwise_left}
use Rattle.gabc_text.proofs.machine.TagNameByCharacter.{is_name, name_lacks}
use Rattle.gabc_text.proofs.machine.TokenStateByCharacter.{Holds, InRaw}
use Rattle.gabc_text.proofs.tokens.TokensByCharacter.{lacks}
use Rattle.gabc_text.specs.declared.token.TagEffect.TheVariants.{Begins}

-- ---- a raw part

-- how much of the ending was read, but for its last character
abbrev pub within_ending : RawKind → ℕ → ℕ
within_ending raw m = min m (length (ending_of raw) - 1)

holds_raw : (raw : RawKind) (m : ℕ) → InRaw raw (within_ending raw m) (stands_for (Raw raw m))
holds_raw raw m = by raw
  where
    named : (raw : RawKind) (s : List ℕ) → stands_for (Raw raw m) ≡ 60 ∷ (s ++ 62 ∷ []) ++ take (within_ending raw m) (ending_of raw) → lacks 62 s ≡ true → effect_of (60 ∷ s ++ 62 ∷ []) ≡ Begins raw
        → InRaw raw (within_ending raw m) (stands_for (Raw raw m))
    named raw s held_is tag_lacks begins = grind arith

    by : (raw : RawKind) → InRaw raw (within_ending raw m) (stands_for (Raw raw m))
    by V = named V (codes "v") refl refl refl
    by Sp = named Sp (codes "sp") refl refl refl
    by Alt = named Alt (codes "alt") refl refl refl

-- the same state, which counts no more of an ending than it has
abbrev pub least : TokenState → TokenState
least (Raw raw m) = Raw raw (within_ending raw m)
least state = state

pub holds_least : (state : TokenState) → Holds (least state) (stands_for state)
holds_least Comment = record { s = []; held_is = refl; open_still = refl }
holds_least (Tag name) = record { s = name_so_far name; held_is = refl; open_still = name_lacks name; named = is_name name }
holds_least (Raw raw m) = holds_raw raw m
holds_least Translation = record { s = []; held_is = refl; open_still = refl }
holds_least _ = refl

-- past its ending a raw part waits for its last character
wanted_last : (raw : RawKind) (m : ℕ) → length (ending_of raw) - 1 ≤ m → wanted_char raw m ≡ 62
wanted_last raw m h = grind arith

raw_same : (raw : RawKind) (m c : ℕ) → step_in_raw raw m c ≡ step_in_raw raw (within_ending raw m) c
raw_same raw m c = by (nat_lt m (length (ending_of raw) - 1)) refl
  where
    last_twice : (b : Bool) (w x y z : Step) → cond b (cond b w x) z ≡ cond b (cond b w y) z
    last_twice b w x y z = grind arith

    by : (b : Bool) → nat_lt m (length (ending_of raw) - 1) ≡ b → step_in_raw raw m c ≡ step_in_raw raw (within_ending raw m) c
    by true e = ap (λ (n : ℕ). step_in_raw raw n c) (let f = ltb-true m (length (ending_of raw) - 1) e in omega (arith, f))
    by false e =
        let f = ltb-false m (length (ending_of raw) - 1) e in
        rw (wanted_last raw m f, wanted_last raw (within_ending raw m) (omega (arith, f))) (last_twice (c == 62) _ _ _ _)

-- ---- a stage with the same state gives the same

abbrev staged : TokenState → TextFacts → Progress → TextStage
staged state facts progress = record { state = state; facts = facts; progress = progress; ended = false }

module _ (facts : TextFacts) (progress : Progress) (raw : RawKind) (m n : ℕ) (same : (c : ℕ) → step_in_raw raw m c ≡ step_in_raw raw n c) where
  same_outs : (c : ℕ) → events_of_push (staged (Raw raw m) facts progress) c ≡ events_of_push (staged (Raw raw n) facts progress) c
  same_outs c = grind arith

  same_stage : (c : ℕ) → push_stage (staged (Raw raw m) facts progress) c ≡ push_stage (staged (Raw raw n) facts progress) c
  same_stage c = grind arith

  same_emitted : (t : List ℕ) → (stepwise (staged (Raw raw m) facts progress) t ≡ stepwise (staged (Raw raw n) facts progress) t) × (stepwise_left (staged (Raw raw m) facts progress) t ≡ stepwise_left (staged (Raw raw n) facts progress) t)
  same_emitted [] = (refl, refl)
  same_emitted (c ∷ t) = grind (arith, same_outs, same_stage)

pub least_emitted : (state : TokenState) (facts : TextFacts) (progress : Progress) (t : List ℕ)
    → (stepwise (staged state facts progress) t ≡ stepwise (staged (least state) facts progress) t) × (stepwise_left (staged state facts progress) t ≡ stepwise_left (staged (least state) facts progress) t)
least_emitted (Raw raw m) facts progress t = same_emitted facts progress raw m (within_ending raw m) (raw_same raw m) t
least_emitted _ facts progress t = (refl, refl)
