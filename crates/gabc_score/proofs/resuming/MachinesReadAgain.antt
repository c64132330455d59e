-- A machine that reads a kept text again reports what is reported of it.
use Rattle.std.proofs.Common.{◌≡◌, ℕ, List, [], ◌∷◌, ◌++◌, Bool, true, false, cond, is_some, encode_utf8, encode_utf8_all, refl, sym, ap, subst, ◌∙◌, append-nil, append_assoc, IsUtf8, arith}
use Rattle.std.specs.Str.{chars}
use Rattle.std.proofs.lemmas.Str.{encodes-chars, encodes_same}
use Rattle.gabc_places.specs.TextOfAnInput.{IsText}
use Rattle.gabc_places.specs.declared.place.Place.{Place}
use Rattle.gabc_score.specs.declared.body_stage.BodyPart.{BodyPart}
use Rattle.gabc_score.specs.declared.body_tells.Openers.{Openers}
use Rattle.gabc_score.specs.declared.reading_again.SyllableRead.{SyllableRead}
use Rattle.gabc_score.specs.declared.reading_again.SyllableRead.TheVariants.{Open, Whole, GivenUp}
use Rattle.gabc_score.specs.declared.score_machine.ScoreMachine.{ScoreMachine}
use Rattle.gabc_score.specs.declared.score_machine.ScorePart.{ScorePart}
use Rattle.gabc_score.specs.declared.score_machine.ScorePart.TheVariants as score_part
use Rattle.gabc_score.specs.ReadAgain.{ComesBefore, ReportsReading, ReportsTheSameBut}
use Rattle.gabc_score.specs.ScoreReports.{before_of, in_body, is_in_comment, is_in_front, openers_of, reading_of}
use Rattle.gabc_score.specs.ReportedWithin.{AreOpenersBefore, IsPlace, ReportsText}
use Rattle.gabc_score.specs.machine.PartKeeps.{joined, PartKeeps}
use Rattle.gabc_score.specs.machine.ReadsSilently.{ReadsTextSilently, HasReadKept, IsRunAlike, IsSameBut, ReadsSilently, ReadsKept, StandsSo, placed_so}
use Rattle.gabc_score.specs.machine.ReadAgain.{IsReportedBy, opened_part}
use Rattle.gabc_score.specs.machine.ReadsChar.{StandsInBody}
use Rattle.gabc_score.specs.machine.ScoreMachine.{IsScore, IsScoreAt, KeepsMemory, shown}
use Rattle.gabc_score.specs.machine.StageLaws.{Again, Ends}
use Rattle.gabc_score.specs.witness.ReadAgain.{CanBeReadAgain}
use Rattle.gabc_score.specs.witness.BodyStage.{BodyStageState}
use Rattle.gabc_score.specs.witness.ScoreStage.{ScoreStageState}
use Rattle.gabc_score.proofs.resuming.MachinesPassAgain.{reads_next, reads_percent}
use Rattle.gabc_score.proofs.resuming.OpenersAreReported.{nothing_in_front, openers_reported}
use Rattle.gabc_score.proofs.resuming.PartsAreOne.{parts_are_one}
use Rattle.gabc_score.proofs.resuming.ResumedIsOfText.{reported_again}
use Rattle.gabc_score.proofs.resuming.ScoresAgree.{before_is_reported, reads_in_body}
use Rattle.gabc_score.proofs.resuming.StagesMove.{TextStays, comment_moved, comment_opened, front_opened, openers_moved, stands_moved}
use Rattle.gabc_score.proofs.score_events.FrontIsFirst.{front_moved}

-- ---- what does not change

-- only a syllable that was open stays so
open_before : (strict : Bool) (so_far : SyllableRead) (m n : ScoreMachine) (cs : List ℕ) → ReadsTextSilently strict so_far m cs Open n → so_far ≡ Open
open_before strict Open m n cs g = refl
open_before strict Whole m n [] g = absurd (cc g.0)
open_before strict Whole m n (c ∷ cs) g = absurd (cc g.0)
open_before strict GivenUp m n cs g = absurd (cc g.0)

-- what became of it stays so, if no character follows
pub ends_so : (strict : Bool) (left : SyllableRead) (m : ScoreMachine) → ReadsTextSilently strict left m [] left m
ends_so strict Open m = (refl, refl)
ends_so strict Whole m = (refl, refl)
ends_so strict GivenUp m = (refl, refl)

-- if one follows, only an open syllable goes on
pub follows_none : (strict : Bool) (left : SyllableRead) (m : ScoreMachine) (c : ℕ) (cs : List ℕ) → (left ≡ Open → ⊥) → ReadsTextSilently strict left m (c ∷ cs) GivenUp m
follows_none strict Open m c cs other = absurd (other refl)
follows_none strict Whole m c cs other = (refl, refl)
follows_none strict GivenUp m c cs other = (refl, refl)

pub then_goes : (strict : Bool) (so_far middle left : SyllableRead) (m k n : ScoreMachine) (cs more : List ℕ) → ReadsTextSilently strict so_far m cs middle k → ReadsTextSilently strict middle k more left n → ReadsTextSilently strict so_far m (cs ++ more) left n
then_goes strict Open middle left m k n [] more g t = subst (λ (h : ScoreMachine). ReadsTextSilently strict Open h more left n) (sym g.1) (subst (λ (r : SyllableRead). ReadsTextSilently strict r k more left n) g.0 t)
then_goes strict Open middle left m k n (c ∷ cs) more g t = (g.0, g.1, (g.2.0, then_goes strict g.0 middle left g.1 k n cs more g.2.1 t))
then_goes strict Whole middle left m k n [] more g t = subst (λ (h : ScoreMachine). ReadsTextSilently strict Whole h more left n) (sym g.1) (subst (λ (r : SyllableRead). ReadsTextSilently strict r k more left n) g.0 t)
then_goes strict Whole middle left m k n (c ∷ cs) more g t = let e = subst (λ (r : SyllableRead). ReadsTextSilently strict r k more left n) g.0 t in (e.0, g.1 ∙ e.1)
then_goes strict GivenUp middle left m k n cs more g t = let e = subst (λ (r : SyllableRead). ReadsTextSilently strict r k more left n) g.0 t in (e.0, g.1 ∙ e.1)

pub limits_through : (strict : Bool) (so_far left : SyllableRead) (m n : ScoreMachine) (cs : List ℕ) → ReadsTextSilently strict so_far m cs left n → n.limits ≡ m.limits
limits_through strict Open left m n [] g = ap (λ (k : ScoreMachine). k.limits) (sym g.1)
limits_through strict Open left m n (c ∷ cs) g = limits_through strict g.0 left g.1 n cs g.2.1 ∙ g.2.0.limits
limits_through strict Whole left m n [] g = ap (λ (k : ScoreMachine). k.limits) (sym g.1)
limits_through strict Whole left m n (c ∷ cs) g = ap (λ (k : ScoreMachine). k.limits) (sym g.1)
limits_through strict GivenUp left m n cs g = ap (λ (k : ScoreMachine). k.limits) (sym g.1)

pub memory_through : (strict : Bool) (so_far left : SyllableRead) (m n : ScoreMachine) (cs : List ℕ) → KeepsMemory m → ReadsTextSilently strict so_far m cs left n → KeepsMemory n
memory_through strict Open left m n [] h g = subst KeepsMemory g.1 h
memory_through strict Open left m n (c ∷ cs) h g = memory_through strict g.0 left g.1 n cs g.2.0.keeps g.2.1
memory_through strict Whole left m n [] h g = subst KeepsMemory g.1 h
memory_through strict Whole left m n (c ∷ cs) h g = subst KeepsMemory g.1 h
memory_through strict GivenUp left m n cs h g = subst KeepsMemory g.1 h

-- from one machine to another nothing has changed but the current syllable, which is not whole
record Alike (m n : ScoreMachine) : Type 0 where
  run : IsRunAlike m n
  same : IsSameBut m n
  stands : StandsInBody n

alike_on : (strict : Bool) (m n k : ScoreMachine) (c : ℕ) → StandsInBody m → ReadsSilently strict m c Open n → Alike n k → Alike m k
alike_on strict m n k c h p a =
    let g = p.goes (λ e. absurd (cc e)) in
    record {
      run = record {
        limits = a.run.limits ∙ p.limits;
        lines = a.run.lines ∙ ap (λ (b : BodyStageState). b.nabc_lines) g.body_is ∙ p.lines;
        macros = a.run.macros ∙ ap (λ (b : BodyStageState). b.macros) g.body_is ∙ p.macros;
      };
      same = record { body = h.part; contexts = a.same.contexts ∙ g.contexts refl; made = a.same.made ∙ g.made refl };
      stands = a.stands;
    }

alike : (strict : Bool) (m n : ScoreMachine) (cs : List ℕ) → StandsInBody m → ReadsTextSilently strict Open m cs Open n → Alike m n
alike strict m n [] h g = subst (Alike m) g.1 (record { run = record { limits = refl; lines = refl; macros = refl }; same = record { body = h.part; contexts = refl; made = refl }; stands = h })
alike strict m n (c ∷ cs) h g =
    let is = open_before strict g.0 g.1 n cs g.2.1 in
    let p = subst (λ (r : SyllableRead). ReadsSilently strict m c r g.1) is g.2.0 in
    let stands = (p.goes (λ e. absurd (cc e))).stands in
    alike_on strict m g.1 n c h p (alike strict g.1 n cs stands (subst (λ (r : SyllableRead). ReadsTextSilently strict r g.1 cs Open n) is g.2.1))

pub stands_through : (strict : Bool) (m n : ScoreMachine) (cs : List ℕ) → StandsInBody m → ReadsTextSilently strict Open m cs Open n → StandsInBody n
stands_through strict m n cs h g = (alike strict m n cs h g).stands

reported_alike : (a b : ScoreMachine) (told : BodyPart) (kept : List ℕ) → IsRunAlike a b → IsReportedBy a.body.nabc_lines a.body.macros a.limits.syllable told kept → IsReportedBy b.body.nabc_lines b.body.macros b.limits.syllable told kept
reported_alike a b told kept h t = rw (h.limits, h.lines, h.macros) t

-- ---- what is reported

pub in_body_by : {A : Type 0} (p : ScorePart) (x : A) → is_some (in_body p x) ≡ true → p ≡ score_part.Body
in_body_by p x e = grind arith

-- a text that is reported of another stage, after the same and under the same limits
is_told : (told : ScoreStageState) (m : ScoreMachine) (kept : List ℕ) → CanBeReadAgain told → told.limits ≡ m.limits → before_of told ≡ before_of (shown m) → m.part ≡ score_part.Body → reading_of told ≡ kept
    → IsReportedBy m.body.nabc_lines m.body.macros m.limits.syllable told.body.part kept
is_told told m kept can limits before body reading = grind (arith, reads_in_body, before_is_reported)

pub in_body_stands : (m : ScoreMachine) → IsScore m → m.part ≡ score_part.Body → StandsInBody m
in_body_stands m rests body = record { part = body; rests = subst (λ (p : ScorePart). IsScoreAt p m) body rests }

-- before a syllable a machine stands so
stands_before : (m : ScoreMachine) → IsScore m → ComesBefore (shown m) → StandsSo m [] false
stands_before m rests before = grind (arith, in_body_by, reads_in_body, nothing_in_front)

module _ (ends : Ends) (again : Again) (stays : TextStays) where
  -- ---- through a text that is reported

  module _ (told : BodyPart) (kept : List ℕ) where
    abbrev IsTold : ScoreMachine → Type 0
    IsTold m = IsReportedBy m.body.nabc_lines m.body.macros m.limits.syllable told kept

    -- after it, while these characters are still to come
    pub record StandsAfter (more : List ℕ) (left : SyllableRead) (n : ScoreMachine) : Type 0 where
      pub m : ScoreMachine
      pub stands : StandsSo m kept false
      pub reported_is : IsTold m
      pub steps : ReadsTextSilently false Open m more left n

    abbrev Told : ScoreMachine → List ℕ → Type 0
    Told m done = IsTold m × StandsSo m done false

    told_on : (m n : ScoreMachine) (c : ℕ) (left : SyllableRead) (done rest : List ℕ) → ReadsSilently false m c left n → Told m done → kept ≡ done ++ (encode_utf8 c ++ rest) → (left ≡ Open) × Told n (done ++ encode_utf8 c)
    told_on m n c left done rest p t e =
        let next = reads_next again ends m c left n p done t.1 told kept rest t.0 e in
        let on = subst (λ (r : SyllableRead). ReadsSilently false m c r n) next.0 p in
        let a = alike_on false m n n c (record { part = t.1.part; rests = t.1.rests }) on
        (record { run = record { limits = refl; lines = refl; macros = refl }; same = record { body = next.1.part; contexts = refl; made = refl }; stands = record { part = next.1.part; rests = next.1.rests } }) in
        (next.0, (reported_alike m n told kept a.run t.0, next.1))

    reads_on : (cs : List ℕ) (m n : ScoreMachine) (more done : List ℕ) (left : SyllableRead) → Told m done → kept ≡ done ++ encode_utf8_all cs → ReadsTextSilently false Open m (cs ++ more) left n → StandsAfter more left n
    reads_on [] m n more done left t e g = record { m = m; stands = subst (λ (k : List ℕ). StandsSo m k false) (sym (e ∙ append-nil done)) t.1; reported_is = t.0; steps = g }
    reads_on (c ∷ cs) m n more done left t e g =
        let on = told_on m g.1 c g.0 done (encode_utf8_all cs) g.2.0 t e in
        reads_on cs g.1 n more (done ++ encode_utf8 c) left on.1 (e ∙ sym (append_assoc done (encode_utf8 c) (encode_utf8_all cs)))
        (subst (λ (r : SyllableRead). ReadsTextSilently false r g.1 (cs ++ more) left n) on.0 g.2.1)

    reads_all : (m n : ScoreMachine) (comment : Bool) (left : SyllableRead) → IsUtf8 kept → is_in_front told ≡ false → is_in_comment told ≡ comment → Told m [] → ReadsTextSilently false Open m (chars kept ++ cond comment (37 ∷ []) []) left n
        → (left ≡ Open) × StandsSo n kept comment
    reads_all m n comment left utf8 front is t g = by comment is (reads_on (chars kept) m n (cond comment (37 ∷ []) []) [] left t (sym (encodes-chars kept utf8)) g)
      where
        by : (comment : Bool) → is_in_comment told ≡ comment → StandsAfter (cond comment (37 ∷ []) []) left n → (left ≡ Open) × StandsSo n kept comment
        by false e a = (a.steps.0, subst (λ (k : ScoreMachine). StandsSo k kept false) a.steps.1 a.stands)
        by true e a =
            let percent = reads_percent again ends a.m 37 a.steps.0 a.steps.1 a.steps.2.0 kept a.stands told a.reported_is front e refl in
            let last = subst (λ (r : SyllableRead). ReadsTextSilently false r a.steps.1 [] left n) percent.0 a.steps.2.1 in
            (last.0, subst (λ (k : ScoreMachine). StandsSo k kept true) last.1 percent.1)

  -- After the text it reports what is reported of it.
  reports_so : (m : ScoreMachine) (told : BodyPart) (openers : Openers) (kept : List ℕ) (comment : Bool) (next : Place) → IsReportedBy m.body.nabc_lines m.body.macros m.limits.syllable told kept → is_in_front told ≡ false → openers_of told ≡ openers
      → StandsSo m kept comment → ReportsReading (shown (placed_so openers next m)) kept openers comment
  reports_so m told openers kept comment next t front openers_are stood = record {
    front = front_moved next (opened_part openers m.body.part) ∙ front_opened openers m.body.part ∙ stood.front;
    reading = reads_in_body m.part m.pair.gathered.builder.kept stood.part ∙ stood.kept_is;
    openers_are =
        openers_moved stays next (opened_part openers m.body.part)
        ∙ subst (λ (o : Openers). openers_of (opened_part o m.body.part) ≡ o) openers_are
        (openers_reported ends stays m.body.nabc_lines m.body.macros m.body.part told t.parts (subst (PartKeeps m.body.nabc_lines m.body.macros m.body.part) same stood.rests.reading.keeps) t.keeps stood.front front);
    comment_is = comment_moved stays next (opened_part openers m.body.part) ∙ comment_opened stays openers m.body.part ∙ stood.comment_is;
  }
    where
      same : stood.rests.reading.parts ≡ t.parts
      same =
          parts_are_one again m.body.nabc_lines m.body.macros m.body.part told stood.rests.reading.parts t.parts stood.rests.reading.keeps t.keeps
          (encodes_same (joined stood.rests.reading.parts) (joined t.parts) (sym stood.rests.reading.kept ∙ stood.kept_is ∙ t.is))

-- ---- what a machine says that has read a kept text again

reported_the_same : (old m : ScoreMachine) (openers : Openers) (next : Place) → m.part ≡ score_part.Body → IsSameBut old m → IsRunAlike old m → ReportsTheSameBut (shown old) (shown (placed_so openers next m)) next
reported_the_same old m openers next body s k = grind (arith, stands_moved)

module _ {old new : ScoreMachine} {kept : List ℕ} {openers : Openers} {comment : Bool} {next : Place} {result : Bool} (r : ReadsKept old kept openers comment next result new) where
  has_read : result ≡ true → HasReadKept old kept openers comment next result new
  has_read good = r.read (r.was good)

  alike_in : (good : result ≡ true) → Alike old (has_read good).m
  alike_in good =
      let h = has_read good in
      alike false old h.m (chars kept ++ cond comment (37 ∷ []) []) (in_body_stands old r.rests (r.was good))
      (subst (λ (left : SyllableRead). ReadsTextSilently false Open old (chars kept ++ cond comment (37 ∷ []) []) left h.m) (h.still good) h.steps)

  pub reports_the_same : result ≡ true → ReportsTheSameBut (shown old) (shown new) next
  reports_the_same good =
      let h = has_read good in
      let a = alike_in good in
      subst (λ (t : ScoreStageState). ReportsTheSameBut (shown old) t next) (sym (h.there good)) (reported_the_same old h.m openers next a.stands.part a.same a.run)

  pub tells_of_text : result ≡ true → IsPlace next → AreOpenersBefore next (openers_of new.body.part) → IsText (reading_of (shown new)) → ReportsText (shown old) → ReportsText (shown new)
  tells_of_text good is =
      let h = has_read good in
      let a = alike_in good in
      subst (λ (t : ScoreStageState). AreOpenersBefore next (openers_of t.body.part) → IsText (reading_of t) → ReportsText (shown old) → ReportsText t) (sym (h.there good))
      (reported_again old h.m openers next a.same a.run a.stands.part is)

  pub reports_again : Ends → Again → TextStays → IsUtf8 kept → (told : ScoreStageState) → CanBeReadAgain told → told.limits ≡ old.limits → before_of told ≡ before_of (shown old) → ReportsReading told kept openers comment → ComesBefore (shown old)
      → (result ≡ true) × ReportsReading (shown new) kept openers comment
  reports_again ends again stays utf8 told can limits before tells first =
      let start = stands_before old r.rests first in
      let h = r.read start.part in
      let t = is_told told old kept can limits before start.part tells.reading in
      let stood = reads_all ends again stays told.body.part kept old h.m comment h.left utf8 tells.front tells.comment_is (t, start) h.steps in
      let good = h.good stood.0 in
      let a = alike false old h.m (chars kept ++ cond comment (37 ∷ []) []) (in_body_stands old r.rests start.part) (subst (λ (left : SyllableRead). ReadsTextSilently false Open old (chars kept ++ cond comment (37 ∷ []) []) left h.m) stood.0 h.steps) in (
        good,
        subst (λ (s : ScoreStageState). ReportsReading s kept openers comment) (sym (h.there good))
            (reports_so ends again stays h.m told.body.part openers kept comment next (reported_alike old h.m told.body.part kept a.run t) tells.front tells.openers_are stood.1),
      )
