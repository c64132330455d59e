use Rattle.std.proofs.Common.{◌≡◌, ◌++◌, ℕ, List, Option, option_to_list, append-nil, sym, ap, ◌∙◌, subst, arith}
use Rattle.gabc_text.specs.declared.token_reader.TextToken.{TextToken}
use Rattle.gabc_nodes.specs.declared.node.Node.{Node}
use Rattle.gabc_tree.specs.declared.text_nodes.Before.{Before}
use Rattle.gabc_tree.specs.TextNodes.{joined, text_nodes}
use Rattle.gabc_tree.specs.machine.TextNodes.{node_after}
use Rattle.gabc_tree.proofs.TextNodesByTokens.{Walked, node_there, begun, walked_on, walked_all}
use Rattle.gabc_tree.proofs.text_nodes.text_nodes.Goals as goal

pub loop-token-init : goal.loop-token-init
loop-token-init c = record { can = tt; ends = tt; walked = begun c.args.kept.now c.args.out.now.items c.tokens_in-tokens.result c.tokens_in-tokens.ensures.tokens }

pub bytes_in-spelled-requires-clause-order : goal.bytes_in-spelled-requires-clause-order
bytes_in-spelled-requires-clause-order c =
    let g = walked_on c.args.kept.now _ c.loop-token.out.items c.loop-token.last c.loop-token.before c.in-Some.token c.loop-token.tokens c.next.new.self c.utf8.kept c.in-Some.ensures.steps c.loop-token.invariant.walked in
    g.order

pub bytes_in-spelled-requires-clause-within : goal.bytes_in-spelled-requires-clause-within
bytes_in-spelled-requires-clause-within c =
    let g = walked_on c.args.kept.now _ c.loop-token.out.items c.loop-token.last c.loop-token.before c.in-Some.token c.loop-token.tokens c.next.new.self c.utf8.kept c.in-Some.ensures.steps c.loop-token.invariant.walked in
    g.within

pub node-requires-clause-from : goal.node-requires-clause-from
node-requires-clause-from c =
    let g = walked_on c.args.kept.now _ c.loop-token.out.items c.loop-token.last c.loop-token.before c.in-Some.token c.loop-token.tokens c.next.new.self c.utf8.kept c.in-Some.ensures.steps c.loop-token.invariant.walked in
    omega (arith, g.order, g.within)

pub node-requires-clause-to : goal.node-requires-clause-to
node-requires-clause-to c =
    let g = walked_on c.args.kept.now _ c.loop-token.out.items c.loop-token.last c.loop-token.before c.in-Some.token c.loop-token.tokens c.next.new.self c.utf8.kept c.in-Some.ensures.steps c.loop-token.invariant.walked in
    omega (arith, g.within)

pub loop-token-preserved : goal.loop-token-preserved
loop-token-preserved c =
    let g = walked_on c.args.kept.now _ c.loop-token.out.items c.loop-token.last c.loop-token.before c.in-Some.token c.loop-token.tokens c.next.new.self c.utf8.kept c.in-Some.ensures.steps c.loop-token.invariant.walked in
    let node : c.node.result ≡ node_there c.args.kept.now c.loop-token.before c.in-Some.token c.next.new.self =
    c.node.ensures
    ∙ ap (λ (s : List ℕ). node_after c.loop-token.before c.in-Some.token s c.ahead.result) c.bytes_in-spelled.ensures
    ∙ ap (λ (a : List TextToken). node_there c.args.kept.now c.loop-token.before c.in-Some.token a) c.ahead.ensures in
    record {
      can = tt;
      ends = tt;
      walked = subst (λ (s : Before). Walked c.args.kept.now (c.args.out.now.items ++ text_nodes c.args.kept.now) c.add.new.out.items c.add.new.last s c.next.new.self) (sym c.past-before.ensures)
          (g.on c.add.new.out.items c.add.new.last
          (λ later. c.in_ok-add.ensures later
          ∙ ap (λ (o : Option Node). c.loop-token.out.items ++ joined (option_to_list c.loop-token.last ++ (option_to_list o ++ later))) node));
    }

pub returns-in_ok-push : goal.returns-in_ok-push
returns-in_ok-push c =
    let all = walked_all c.args.kept.now _ c.loop-token.out.items c.loop-token.last c.loop-token.before c.loop-token.tokens c.loop-token.invariant.walked c.in_default.ensures.steps.0 in
    c.in_ok-push.ensures.items ∙ ap (λ (o : Option Node). c.loop-token.out.items ++ option_to_list o) (sym c.in-Some-last.is) ∙ all

pub returns-in_default-last : goal.returns-in_default-last
returns-in_default-last c =
    let all = walked_all c.args.kept.now _ c.loop-token.out.items c.loop-token.last c.loop-token.before c.loop-token.tokens c.loop-token.invariant.walked c.in_default.ensures.steps.0 in
    sym (append-nil c.loop-token.out.items) ∙ ap (λ (o : Option Node). c.loop-token.out.items ++ option_to_list o) (sym c.in_default-last.is) ∙ all
