-- What the code keeps of the tokens so far.
use Rattle.std.specs.Prelude.{Bool, false, not, ◌||◌}
use Rattle.gabc_text.specs.declared.styles.Style.{Style}
use Rattle.gabc_text.specs.declared.styles.Style.TheVariants.{B, C, E, I, Sc, Tt, Ul}
use Rattle.gabc_text.specs.declared.styles.Styles.{Styles}
use Rattle.gabc_text.specs.declared.text_facts.TextFacts.{TextFacts}

abbrev pub has_style : Styles → Style → Bool
has_style s B = s.b
has_style s C = s.c
has_style s E = s.e
has_style s I = s.i
has_style s Sc = s.sc
has_style s Tt = s.tt
has_style s Ul = s.ul

abbrev pub is_empty : Styles → Bool
is_empty s = not (s.b || (s.c || (s.e || (s.i || (s.sc || (s.tt || s.ul))))))

abbrev pub no_facts : TextFacts
no_facts = record {
  styles = record { b = false; c = false; e = false; i = false; sc = false; tt = false; ul = false };
  word = false;
  blank = false;
  space = false;
  begun = false;
  ended = false;
  translated = false;
  starts = false;
}
