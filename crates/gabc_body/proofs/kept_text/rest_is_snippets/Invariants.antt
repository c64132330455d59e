use Rattle.std.proofs.Common.{◌≡◌, ◌++◌, codes, drop}
use Rattle.gabc_body.specs.machine.SyllableText.{snippets_after_bars}
use Rattle.gabc_body.proofs.kept_text.rest_is_snippets.Given as goal

-- if what is left ends the kept text from here on, all of it ends it from where it began
abbrev pub invariant-loop-snippet : goal.invariant-loop-snippet
invariant-loop-snippet l =
    snippets_after_bars l.kept (drop l.snippet-index l.snippets) ++ codes ")" ≡ drop l.end l.kept
    → snippets_after_bars l.kept l.snippets ++ codes ")" ≡ drop l.fn.from l.kept
