-- How a call that follows a rescue is asked for, and how it ends. For contracts and proofs: no promise uses it.
use Rattle.std.specs.Prelude.{◌≡◌, ◌≢◌, ◌≤◌, ℕ, Bool, true, false, List, [], codes}
use Rattle.fault_count.specs.Counts.{raised}
use Rattle.rescue_console.specs.ConsoleState.{ConsoleState}
use Rattle.rescue_console.specs.FeedState.{FeedState}
use Rattle.console_texts.specs.Texts.{message_of}
use Rattle.option_words.specs.declared.fault.UsageFault.{UsageFault}
use Rattle.option_words.specs.declared.fault.UsageFault.TheVariants.{Word}
use Rattle.option_words.specs.declared.fault.WordFault.TheVariants.{UnknownLong}
use Rattle.option_words.specs.Words.{word}
use Rattle.ddrescueshow_words.specs.Command.{AreRefused}
use Rattle.ddrescueshow_cli.specs.Names.{program_name}
use Rattle.ddrescueshow_cli.specs.declared.follow.FollowEnding.{FollowEnding}
use Rattle.ddrescueshow_cli.specs.declared.follow.FollowEnding.TheVariants.{Done, NotAlone, FeedFault, ConsoleFault, NoMemory}

-- the fault is that a word can't be read, and that word is `--progress`
pub record IsAtProgress (words : List (List ℕ)) (fault : UsageFault) : Type 0 where
  pub at : ℕ
  pub unread : fault ≡ Word (UnknownLong at)
  pub counted : 1 ≤ at
  pub is : word words at ≡ codes "--progress"

-- the words ask to follow a rescue: as the words of a picture they are refused, since the first of them that can't be
-- read is `--progress`
pub record AskToFollow (words : List (List ℕ)) : Type 0 where
  pub fault : UsageFault
  pub refused : AreRefused words fault
  pub is : IsAtProgress words fault

-- all was put, so there is no message
abbrev pub is_followed : FollowEnding → Bool
is_followed Done = true
is_followed NotAlone = false
is_followed FeedFault = false
is_followed ConsoleFault = false
is_followed NoMemory = false

-- the exit status
abbrev pub follow_status : FollowEnding → ℕ
follow_status Done = 0
follow_status NotAlone = 1
follow_status FeedFault = 1
follow_status ConsoleFault = 1
follow_status NoMemory = 4

-- the text of an answer
abbrev pub follow_text : FollowEnding → List ℕ
follow_text Done = []
follow_text NotAlone = codes "--progress takes no other argument"
follow_text FeedFault = codes "cannot read standard input"
follow_text ConsoleFault = codes "cannot write standard output"
follow_text NoMemory = codes "out of memory"

-- the message on standard error for an answer
abbrev pub follow_message : FollowEnding → List ℕ
follow_message e = message_of program_name (follow_text e)

-- what becomes of the count of takes that failed
abbrev pub takes_after : FollowEnding → ℕ → ℕ
takes_after Done n = n
takes_after NotAlone n = n
takes_after FeedFault n = raised n
takes_after ConsoleFault n = n
takes_after NoMemory n = n

-- what becomes of the count of puts on standard output that failed
abbrev pub puts_after : FollowEnding → ℕ → ℕ
puts_after Done n = n
puts_after NotAlone n = n
puts_after FeedFault n = n
puts_after ConsoleFault n = raised n
puts_after NoMemory n = n

-- whether each put on standard output succeeded
abbrev pub is_heard : FollowEnding → Bool
is_heard Done = true
is_heard NotAlone = true
is_heard FeedFault = true
is_heard ConsoleFault = false
is_heard NoMemory = true

-- the answer at the end of the lines, by whether each put succeeded
abbrev pub ending_of : (heard : Bool) → FollowEnding
ending_of true = Done
ending_of false = ConsoleFault

-- Why an answer came of a call without other arguments: a failure is answered if and only if its count rose and no
-- other rose.
pub record HasCause (e : FollowEnding) (feed feed' : FeedState) (console console' : ConsoleState) : Type 0 where
  pub alone : e ≢ NotAlone
  pub takes : feed'.faults ≡ takes_after e feed.faults
  pub puts : console'.out.faults ≡ puts_after e console.out.faults
