-- What a program has to show of its rows, of its grammar and of its work, so that it keeps the promises of all
-- programs. For contracts, laws and proofs: no promise uses it.
use Rattle.std.specs.Prelude.{◌≡◌, ℕ, List}
use Rattle.option_words.specs.declared.fault.UsageFault.{UsageFault}
use Rattle.option_words.specs.Grammar.{AreRefusedBy}
use Rattle.program_promise.specs.Verdicts.{AreVerdicts}
use Rattle.program_promise.specs.World.{WorldState}
use Rattle.program_promise.specs.Kinds.{Wrong, Starved, IsVerdictKind, IsWorkKind}
use Rattle.program_promise.specs.Program.{Program, kind_of}
use Rattle.program_promise.specs.Promise.{DoneFor}

-- an answer that what is there leads to, whatever fails
abbrev pub IsVerdict : {C E O : Type 0} → Program C E O → E → Type 0
IsVerdict p e = IsVerdictKind (kind_of p e)

-- By a program, what holds of the objects when it is called, and its answers for words that are refused:
module _ {C E O : Type 0} (p : Program C E O) (Begins : WorldState → Type 0) (usage : UsageFault → E) where
  -- an answer of a call in which nothing was done
  pub record IsIdleAnswer (e : E) : Type 0 where
    pub also : (p.row e).also
    pub keeps : (w : WorldState) → Begins w → p.Keeps e w w

  -- what a program has to show, so that the laws of all programs follow
  pub record IsWellMade : Type 0 where
    -- Lack of memory has an answer of its kind, and so have words that are refused; then nothing may have been done;
    pub memory : kind_of p p.faults.memory ≡ Starved
    pub memory_idle : IsIdleAnswer p.faults.memory
    pub wrong : (words : List (List ℕ)) (fault : UsageFault) → AreRefusedBy p.grammar words fault
        → kind_of p (usage fault) ≡ Wrong fault
    pub wrong_idle : (fault : UsageFault) → IsIdleAnswer (usage fault)
    -- no answer for a fault is a verdict;
    pub faults : AreVerdicts p.faults (IsVerdict p)
    -- if memory runs out at once, nothing is done;
    pub starves : (c : C) (line : List ℕ) (w : WorldState) → Begins w → DoneFor p c line p.faults.memory w w
    -- work answers what fits its command, and no fault of the words.
    pub work : (c : C) (line : List ℕ) (e : E) (old new : WorldState) → DoneFor p c line e old new
        → IsWorkKind (kind_of p e) × p.Fits c e
