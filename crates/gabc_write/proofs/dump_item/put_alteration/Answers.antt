use Rattle.gabc_write.proofs.dump_item.put_alteration.Goals as goal

pub returns : goal.returns
returns g c = rw (c.put_word_and_last.ensures, c.put-2.ensures, c.put.ensures, c.letter_of.ensures, c.word_of_alter.ensures, c.sign_of.ensures) (simp g.met.S.Put.taken_both)
