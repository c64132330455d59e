-- What the calls of a run in pieces answer is put.
use Rattle.std.proofs.Common.{◌≡◌, ◌≢◌, ◌==◌, ℕ, ◌+◌, ◌<◌, ◌≤◌, ◌⊎◌, inl, inr, List, [], ◌∷◌, ◌++◌, append-nil, take-append-drop, take_all, Result, IfOk, length, take, drop, Bool, true, false, if◌then◌else◌, append_assoc, refl, sym, ap, subst, ◌∙◌, arith}
use Rattle.std.proofs.lemmas.Bool.Decides.{eqb_tells}
use Rattle.std.proofs.Math.ListN.{get_or}
use Rattle.std.proofs.Math.Seq.{take-append_seam}
use Rattle.std.proofs.lemmas.List.{take_more}
use Rattle.gabc_places.specs.declared.limits.Limits.{Limits}
use Rattle.gregorio_jobs.specs.declared.job.Job.{Job}
use Rattle.gregorio_jobs.specs.Status.{code_of}
use Rattle.gregorio_state.specs.Conditions.{AreStateFields}
use Rattle.gregorio_state.specs.Fields.{StateFields}
use Rattle.gregorio_state.specs.StateBytes.{state_bytes}
use Rattle.gregorio.specs.declared.source_ending.SourceEnding.{SourceEnding}
use Rattle.gregorio.specs.Saved.{state_of}
use Rattle.gregorio.specs.SavedState.{IsOfJob}
use Rattle.gregorio.specs.Streams.{Streams, joined}
use Rattle.std.specs.Borrow.{Bor}
use Rattle.gregorio.specs.witness.StandsFor.{StandsFor}
use Rattle.gregorio_c.specs.StepAnswers.{BeginAnswer, Buffer, EndAnswer, FeedAnswer, IsHandedOut, IsReason, used}
use Rattle.gregorio_c.specs.Steps.{Made, Writes, goes_on, run_of}
use Rattle.gregorio_c.specs.declared.lengths.Lengths.{Lengths}
use Rattle.gregorio_c.specs.declared.step.Step.{Step}
use Rattle.gregorio_c.specs.declared.in_pieces.Fed.{Fed}
use Rattle.gregorio_c.specs.declared.in_pieces.Fed.TheVariants.{On, Over}
use Rattle.gregorio_c.specs.InPieces.{MayFail, PutsLast}
use Rattle.gregorio_c.specs.machine.InPieces.{PutsFed, PutsOn, fed_as}
use Rattle.gregorio_c.specs.machine.Steps.{WritesNothing}
use Rattle.gregorio.proofs.pieces.BytesAreJoined.{with_both_after}
use Rattle.gregorio_c.proofs.NoStepIsRefused.{begun_writes, ended_writes, fed_writes}

joined_both : (one more : List (Bor (List ℕ))) → joined (one ++ more) ≡ joined one ++ joined more
joined_both [] more = refl
joined_both (p ∷ one) more = ap (λ (bytes : List ℕ). p.now ++ bytes) (joined_both one more) ∙ sym (append_assoc p.now (joined one) (joined more))

joined_after : (pieces : List (Bor (List ℕ))) (piece : Bor (List ℕ)) → joined (pieces ++ (piece ∷ [])) ≡ joined pieces ++ piece.now
joined_after pieces piece = joined_both pieces (piece ∷ []) ∙ ap (λ (bytes : List ℕ). joined pieces ++ bytes) (append-nil piece.now)

-- the heads of the buffers, if all that was made stands in them
record Took (made : Made) (state output messages : Buffer) (number : ℕ) : Type 0 where
  state_is : take (length made.state) state.new ≡ made.state
  output_is : take (length made.output) output.new ≡ made.output
  lines_are : take (length made.lines) messages.new ≡ made.lines
  number_is : number ≡ made.number

head : (text new old : List ℕ) → new ≡ text ++ drop (length text) old → take (length text) new ≡ text
head text new old is = ap (λ (bytes : List ℕ). take (length text) bytes) is ∙ take-append_seam text (drop (length text) old)

took : (made : Made) (state output messages : Buffer) (number : ℕ) → IsHandedOut made state output messages number → (number ≡ 7 → ⊥) → Took made state output messages number
took made state output messages number h not_short = grind (arith, head)

-- if nothing is written of what was made, a buffer is too small
fails : (made : Made) (state output messages : Buffer) (number : ℕ) → (WritesNothing made.number → ⊥) → IsHandedOut made state output messages number → WritesNothing number → MayFail number
fails made state output messages number writes h nothing = grind arith

not_seven : (number : ℕ) → (WritesNothing number → ⊥) → number ≡ 7 → ⊥
not_seven number writes seven = writes (inr (inr (omega (arith, seven))))

-- ---- the first call

module _ (job : Job) (limits : Limits) (state : Buffer) (step : Step) (number : ℕ) where
  pub begun : (WritesNothing number → ⊥) → (number ≡ 5) ⊎ BeginAnswer job limits state step number → StandsFor job limits (take step.state state.new) (run_of job limits)
  begun writes (inl e) = absurd (writes (inr (inl e)))
  begun writes (inr a) =
      let t = took a.made state (used [] []) (used [] []) number a.handed (not_seven number writes) in
      subst (λ (bytes : List ℕ). StandsFor job limits bytes (run_of job limits)) (sym (ap (λ (s : Step). take s.state state.new) a.lengths ∙ t.state_is)) a.begins.stands

  pub begin_fails : WritesNothing number → (number ≡ 5) ⊎ BeginAnswer job limits state step number → MayFail number
  begin_fails nothing h = grind (arith, fails, begun_writes)

-- ---- what is known of a state that stands for something

abbrev pub Once : List ℕ → Type 0
Once bytes = (one other : StateFields) → AreStateFields one → AreStateFields other → bytes ≡ state_bytes one → bytes ≡ state_bytes other → one ≡ other

module _ (job : Job) (limits : Limits) (before : List ℕ) (left : Writes) (stands : StandsFor job limits before left) (once : Once before) where
  is_of_job : IsOfJob job limits (state_of stands.engine)
  is_of_job = grind arith

  five : (number : ℕ) → IsReason job limits before number → number ≡ 5
  five number (inl e) = e
  five number (inr (inl (e, none))) = absurd (none (record { s = state_of stands.engine; is = stands.saved; fields = stands.is_state }))
  five number (inr (inr (e, another))) =
      absurd (another.other (subst (IsOfJob job limits) (once (state_of stands.engine) another.s stands.is_state.fields another.fields.fields stands.saved another.is) is_of_job))

  -- ---- a piece

  module _ (piece : List ℕ) (state output messages : Buffer) (step : Step) (number : ℕ) where
    pub feed_fails : WritesNothing number → IsReason job limits before number ⊎ FeedAnswer job limits before piece state output messages step number → MayFail number
    feed_fails nothing (inl reason) = inl (five number reason)
    feed_fails nothing (inr a) = fails a.made state output messages number (fed_writes job limits a.made before piece a.feeds) a.handed nothing

    module _ {A B : Type 0} (takes : A → List ℕ → A) (takes_too : B → List ℕ → B) (o o_then : A) (m m_then : B) where
      abbrev Puts : ℕ → Type 0
      Puts n = PutsFed takes takes_too job limits left piece o m state.new o_then m_then (fed_as n step.state)

      module _ (a : FeedAnswer job limits before piece state output messages step number) (t : Took a.made state output messages number)
          (out : o_then ≡ takes o (take step.output output.new)) (told : m_then ≡ takes_too m (take step.messages messages.new)) where
        output_put : o_then ≡ takes o a.made.output
        output_put = out ∙ (ap (λ (s : Step). takes o (take s.output output.new)) a.lengths ∙ ap (takes o) t.output_is)

        lines_put : m_then ≡ takes_too m a.made.lines
        lines_put = told ∙ (ap (λ (s : Step). takes_too m (take s.messages messages.new)) a.lengths ∙ ap (takes_too m) t.lines_are)

        goes : a.made.number ≡ goes_on → PutsOn takes takes_too job limits left piece o m (take step.state state.new) o_then m_then
        goes six =
            let on = a.feeds.on six left stands in
            record {
              output = a.made.output;
              lines = a.made.lines;
              rest = on.rest;
              out_is = output_put;
              lines_are = lines_put;
              stands = subst (λ (bytes : List ℕ). StandsFor job limits bytes on.rest) (sym (ap (λ (s : Step). take s.state state.new) a.lengths ∙ t.state_is)) on.stands;
              law = on.law;
            }

        ends : (a.made.number ≡ goes_on → ⊥) → (ending : SourceEnding) (more : List ℕ) → PutsLast takes takes_too (left ending (piece ++ more)) o m o_then m_then number
        ends other ending more =
            let over = a.feeds.over other left stands in
            let law = over.law ending more in
            record {
              out_is = output_put ∙ ap (λ (s : Streams). takes o s.output) (sym law);
              lines_are = lines_put ∙ ap (λ (s : Streams). takes_too m s.messages) (sym law);
              number_is = t.number_is ∙ (over.over.number ∙ ap (λ (s : Streams). code_of s.status) (sym law));
            }

      -- what is fed is put
      pub feed_put : (WritesNothing number → ⊥) → IsReason job limits before number ⊎ FeedAnswer job limits before piece state output messages step number
          → o_then ≡ takes o (take step.output output.new) → m_then ≡ takes_too m (take step.messages messages.new) → Puts number
      feed_put writes (inl reason) out told = absurd (writes (inr (inl (five number reason))))
      feed_put writes (inr a) out told = by (eqb_tells number goes_on)
        where
          t : Took a.made state output messages number
          t = took a.made state output messages number a.handed (not_seven number writes)

          by : (((number == goes_on) ≡ true) × (number ≡ goes_on)) ⊎ (((number == goes_on) ≡ false) × (number ≢ goes_on)) → Puts number
          by (inl (is, six)) =
              subst (λ (b : Bool). PutsFed takes takes_too job limits left piece o m state.new o_then m_then (if b then On step.state else Over number)) (sym is) (goes a t out told (sym t.number_is ∙ six))
          by (inr (is, other)) =
              subst (λ (b : Bool). PutsFed takes takes_too job limits left piece o m state.new o_then m_then (if b then On step.state else Over number)) (sym is) (ends a t out told (λ six. other (t.number_is ∙ six)))

  -- ---- the end

  module _ (ending : SourceEnding) (output messages : Buffer) (lengths : Lengths) (number : ℕ) where
    pub end_fails : WritesNothing number → IsReason job limits before number ⊎ EndAnswer job limits ending before output messages lengths number → MayFail number
    end_fails nothing (inl reason) = inl (five number reason)
    end_fails nothing (inr a) = fails a.made (used [] []) output messages number (ended_writes job limits a.made ending before a.ends) a.handed nothing

    -- what ends a run is put
    pub end_put : {A B : Type 0} (takes : A → List ℕ → A) (takes_too : B → List ℕ → B) (o o_then : A) (m m_then : B) → (WritesNothing number → ⊥)
        → IsReason job limits before number ⊎ EndAnswer job limits ending before output messages lengths number
        → o_then ≡ takes o (take lengths.output output.new) → m_then ≡ takes_too m (take lengths.messages messages.new) → PutsLast takes takes_too (left ending []) o m o_then m_then number
    end_put takes takes_too o o_then m m_then writes (inl reason) out told = absurd (writes (inr (inl (five number reason))))
    end_put takes takes_too o o_then m m_then writes (inr a) out told =
        let t = took a.made (used [] []) output messages number a.handed (not_seven number writes) in
        let law = a.ends.law left stands in
        record {
          out_is = out ∙ (ap (λ (l : Lengths). takes o (take l.output output.new)) a.lengths_are ∙ (ap (takes o) t.output_is ∙ ap (λ (s : Streams). takes o s.output) (sym law)));
          lines_are = told ∙ (ap (λ (l : Lengths). takes_too m (take l.messages messages.new)) a.lengths_are ∙ (ap (takes_too m) t.lines_are ∙ ap (λ (s : Streams). takes_too m s.messages) (sym law)));
          number_is = t.number_is ∙ (a.ends.over.number ∙ ap (λ (s : Streams). code_of s.status) (sym law));
        }

-- ---- one after the other

-- a piece stands after those before it
pub joined_next : (pieces : List (Bor (List ℕ))) (count : ℕ) (piece : Bor (List ℕ)) → take (count + 1) pieces ≡ take count pieces ++ (piece ∷ []) → joined (take (count + 1) pieces) ≡ joined (take count pieces) ++ piece.now
joined_next pieces count piece is = ap (λ (l : List (Bor (List ℕ))). joined l) is ∙ joined_after (take count pieces) piece

-- after a piece stand those that follow
pub joined_rest : (pieces : List (Bor (List ℕ))) (count : ℕ) → joined (take count pieces) ++ joined (drop count pieces) ≡ joined pieces
joined_rest pieces count = sym (joined_both (take count pieces) (drop count pieces)) ∙ ap (λ (l : List (Bor (List ℕ))). joined l) (take-append-drop count pieces)

module _ {A B : Type 0} (takes : A → List ℕ → A) (takes_too : B → List ℕ → B) (job : Job) (limits : Limits) where
  -- nothing is put yet
  pub nothing_put : (left : Writes) (state : List ℕ) (o : A) (m : B) → takes o [] ≡ o → takes_too m [] ≡ m → StandsFor job limits state left → PutsOn takes takes_too job limits left [] o m state o m
  nothing_put left state o m none none_too stands = grind arith

  module _ (left : Writes) (bytes : List ℕ) (o p q : A) (m n r : B) (state state_then : List ℕ)
      (both : (s : A) (a b : List ℕ) → takes (takes s a) b ≡ takes s (a ++ b)) (both_too : (s : B) (a b : List ℕ) → takes_too (takes_too s a) b ≡ takes_too s (a ++ b))
      (a : PutsOn takes takes_too job limits left bytes o m state p n) where
    -- a piece more is put
    pub more_put : (piece : List ℕ) → PutsOn takes takes_too job limits a.rest piece p n state_then q r → PutsOn takes takes_too job limits left (bytes ++ piece) o m state_then q r
    more_put piece b = grind (arith, append_assoc, with_both_after)

    -- the last is put
    pub last_put : (ending : SourceEnding) (more : List ℕ) (number : ℕ) → PutsLast takes takes_too (a.rest ending more) p n q r number → PutsLast takes takes_too (left ending (bytes ++ more)) o m q r number
    last_put ending more number l = grind arith

-- ---- pieces, one after the other

pub if_ok : {P Q : ℕ → Type 0} (r : Result ℕ ℕ) → IfOk r P → ((n : ℕ) → P n → Q n) → IfOk r Q
if_ok r h f = grind arith

module _ {A B : Type 0} (takes : A → List ℕ → A) (takes_too : B → List ℕ → B) (job : Job) (limits : Limits) (left : Writes) (pieces : List (Bor (List ℕ))) (count : ℕ) (o p q : A) (m n r : B) (state : List ℕ)
    (both : (s : A) (a b : List ℕ) → takes (takes s a) b ≡ takes s (a ++ b)) (both_too : (s : B) (a b : List ℕ) → takes_too (takes_too s a) b ≡ takes_too s (a ++ b))
    (a : PutsOn takes takes_too job limits left (joined (take count pieces)) o m state p n) where
  module _ (other : Bor (List ℕ)) (state_then : List ℕ) (within : count < length pieces) (fed : Fed)
      (f : PutsFed takes takes_too job limits a.rest (get_or pieces count other).now p n state_then q r fed) where
    next : joined (take (count + 1) pieces) ≡ joined (take count pieces) ++ (get_or pieces count other).now
    next = joined_next pieces count (get_or pieces count other) (take_more pieces count other within)

    pub next_put : (len : ℕ) → fed ≡ On len → PutsOn takes takes_too job limits left (joined (take (count + 1) pieces)) o m (take len state_then) q r
    next_put len is =
        subst (λ (bytes : List ℕ). PutsOn takes takes_too job limits left bytes o m (take len state_then) q r) (sym next)
        (more_put takes takes_too job limits left (joined (take count pieces)) o p q m n r state (take len state_then) both both_too a (get_or pieces count other).now
        (subst (λ (x : Fed). PutsFed takes takes_too job limits a.rest (get_or pieces count other).now p n state_then q r x) is f))

    pub over_put : (number : ℕ) → fed ≡ Over number → (ending : SourceEnding) → PutsLast takes takes_too (left ending (joined pieces)) o m q r number
    over_put number is ending =
        let rest = joined (drop (count + 1) pieces) in
        let all =
        sym (append_assoc (joined (take count pieces)) (get_or pieces count other).now rest)
        ∙ (ap (λ (bytes : List ℕ). bytes ++ rest) (sym next) ∙ joined_rest pieces (count + 1)) in
        subst (λ (bytes : List ℕ). PutsLast takes takes_too (left ending bytes) o m q r number) all
        (last_put takes takes_too job limits left (joined (take count pieces)) o p q m n r state state_then both both_too a ending ((get_or pieces count other).now ++ rest) number
        (subst (λ (x : Fed). PutsFed takes takes_too job limits a.rest (get_or pieces count other).now p n state_then q r x) is f ending rest))

  pub end_of_pieces : length pieces ≤ count → (ending : SourceEnding) (number : ℕ) → PutsLast takes takes_too (a.rest ending []) p n q r number → PutsLast takes takes_too (left ending (joined pieces)) o m q r number
  end_of_pieces over ending number l = grind (arith, append-nil, take_all, last_put)
