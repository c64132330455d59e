use Rattle.std.proofs.Common.{◌≡◌, ◌+◌, ℕ, List, [], true, length, take, drop, ap, sym, subst, ◌∙◌, arith}
use Rattle.std.proofs.lemmas.List.{drop-take}
use Rattle.gregorio.specs.Engine.{is_running}
use Rattle.gregorio.specs.machine.Taking.{Takes, TakesFrom}
use Rattle.gregorio.specs.witness.Engine.{EngineState}
use Rattle.gregorio.proofs.pieces.PiecesAreTaken.{byte_taken_from, taken_after_none, taken_of_front, takes_none}
use Rattle.gregorio.proofs.engine.Engine.take_next.Goals.{then-is_between+in-Some+else-taken-gt0, else-is_between}
use Rattle.gregorio.proofs.engine.Engine.take_next.Goals as goal

-- what is left of the front of a piece is a front of what is left of the piece
rest_is_front : (piece text rest : List ℕ) (count : ℕ) → text ≡ take (length text) piece → rest ≡ drop count text → length rest + count ≡ length text → rest ≡ take (length rest) (drop count piece)
rest_is_front piece text rest count front back len =
    back ∙ (ap (λ (xs : List ℕ). drop count xs) (front ∙ ap (λ (k : ℕ). take k piece) (omega (arith, len))) ∙ drop-take count (length rest) piece)

pub returns-then-taken-gt0-clause-takes : goal.returns-then-taken-gt0-clause-takes
returns-then-taken-gt0-clause-takes c =
    let old = c.args.self.now in
    let new = c.take_run-taken.new.self in
    let n = c.take_run-taken.result in
    let rest = c.in-Some.rest.now in
    let run : TakesFrom old rest n new = record {
      within = c.take_run-taken.ensures.within;
      takes = c.take_run-taken.ensures.takes;
      fault = λ over. absurd (cc (sym over ∙ c.take_run-taken.ensures.running));
    } in
    taken_of_front old new (drop c.args.count c.args.piece.now) (length rest) n
    (subst (λ (xs : List ℕ). TakesFrom old xs n new) (rest_is_front c.args.piece.now c.args.text.now rest c.args.count c.requires.front c.in-Some.ensures.back c.in-Some.ensures.back_len) run)

pub returns-clause-takes : goal.returns-clause-takes
returns-clause-takes c =
    let old = c.args.self.now in
    let mid = c.if-is_between.self in
    let new = c.take.new.self in
    let byte = λ (runs : is_running mid ≡ true). byte_taken_from mid new c.args.piece.now c.args.count c.requires.more c.take.ensures.running runs c.take.ensures.takes in
    elim c.if-is_between.branch [
      | then-is_between+in-Some+else-taken-gt0 w ↦
          let run = w.take_run-taken in
          let none : run.result ≡ 0 = (let few = w.if-taken-gt0.false in omega (arith, few)) in
          let takes : Takes old [] run.new.self = subst (λ (k : ℕ). Takes old (take k w.in-Some.rest.now) run.new.self) none run.ensures.takes in
          taken_after_none old mid new (drop c.args.count c.args.piece.now) 1 (subst (Takes old []) (sym w.self-is) takes) (byte (ap (λ (e : EngineState). is_running e) w.self-is ∙ run.ensures.running))
      | else-is_between w ↦
          taken_after_none old mid new (drop c.args.count c.args.piece.now) 1 (subst (Takes old []) (sym w.self-is) (takes_none old)) (byte (ap (λ (e : EngineState). is_running e) w.self-is ∙ c.requires.running))
    ]
