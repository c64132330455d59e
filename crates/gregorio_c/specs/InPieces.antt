-- The bytes that a run in pieces puts in all, and the reasons why it may fail.
use Rattle.std.specs.Prelude.{◌≡◌, ◌⊎◌, ℕ, List}
use Rattle.gregorio_jobs.specs.Status.{code_of}
use Rattle.gregorio.specs.Streams.{Streams}

-- a call that asks for something fails only if memory runs out, or if a buffer is too small
abbrev pub MayFail : ℕ → Type 0
MayFail number = (number ≡ 5) ⊎ (number ≡ 7)

module _ {A B : Type 0} (takes : A → List ℕ → A) (takes_too : B → List ℕ → B) where
  -- two ends have taken these streams, and this is the number of their status
  pub record PutsLast (streams : Streams) (o : A) (m : B) (o_then : A) (m_then : B) (number : ℕ) : Type 0 where
    pub out_is : o_then ≡ takes o streams.output
    pub lines_are : m_then ≡ takes_too m streams.messages
    pub number_is : number ≡ code_of streams.status
