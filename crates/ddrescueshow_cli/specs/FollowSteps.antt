-- The steps of a call that follows a rescue. For contracts and proofs: no promise uses it.
use Rattle.std.specs.Prelude.{◌≡◌, ◌≢◌, ◌⊎◌, ℕ, ◌<◌, ◌≤◌, Bool, true, false, IsTrue, List, [], ◌∷◌, ◌++◌, take}
use Rattle.rescue_console.specs.ConsoleState.{ConsoleState}
use Rattle.rescue_console.specs.FeedState.{FeedState}
use Rattle.rescue_console.specs.Speaking.{SpeaksOn, out_pieces}
use Rattle.ddrescueshow_cli.specs.declared.follow.FollowEnding.{FollowEnding}
use Rattle.ddrescueshow_cli.specs.declared.follow.FollowEnding.TheVariants.{NotAlone, ConsoleFault, NoMemory}
use Rattle.ddrescueshow_cli.specs.declared.follower.Follower.{Follower}
use Rattle.ddrescueshow_cli.specs.declared.follower.Known.{Known}
use Rattle.ddrescueshow_cli.specs.Following.{ending_of, takes_after}
use Rattle.ddrescueshow_cli.specs.Progress.{IsSaid}
use Rattle.ddrescueshow_cli.specs.PutLines.{AreLines, Follows, HasNoNewline, IsUnfinished, PutLine, PutsLast, PutsLines, Round, Rounds, Stage, TakesOnce, lines_of, texts_of}

-- This many bytes go on with a line: they end with its newline, or take all of its room, and then it is whole; or there
-- is room for more.
pub data IsPart (room : ℕ) (bytes : List ℕ) (n : ℕ) (whole : Bool) : Type 0 where
  Ends : (front : List ℕ) → take n bytes ≡ front ++ 10 ∷ [] → HasNoNewline front → n ≤ room → whole ≡ true
      → IsPart room bytes n whole
  Fills : HasNoNewline (take n bytes) → n ≡ room → whole ≡ true → IsPart room bytes n whole
  Fits : HasNoNewline (take n bytes) → n < room → whole ≡ false → IsPart room bytes n whole

-- a line was put by one put, or a beginning of what is put of it
pub record PutsText (terminal : Bool) (line : List ℕ) (heard : Bool) (known known' : Known)
    (console console' : ConsoleState) : Type 0 where
  pub text : List ℕ
  pub said : IsSaid terminal known known' line text
  pub speaks : SpeaksOn (out_pieces (text ∷ [])) true heard console console'

-- a line couldn't be put
pub data LosesText (terminal : Bool) (line : List ℕ) (e : FollowEnding) (known : Known)
    (console console' : ConsoleState) : Type 0 where
  Unmade : e ≡ NoMemory → console' ≡ console → LosesText terminal line e known console console'
  Unsaid : (known' : Known) → e ≡ ConsoleFault → PutsText terminal line false known known' console console'
      → LosesText terminal line e known console console'

-- how far a call has come that has this follower and this console
abbrev pub stage_of : Follower → ConsoleState → Stage
stage_of f console = record { line = f.line.items; known = f.teller.known; console = console }

-- bytes came, and the lines in them were put
pub record GoesOn (came : List ℕ) (f f' : Follower) (console console' : ConsoleState) : Type 0 where
  pub terminal : f'.teller.terminal ≡ f.teller.terminal
  pub unfinished : IsUnfinished f'.line.items
  pub puts : PutsLines f.teller.terminal came true (stage_of f console) (stage_of f' console')

-- how the last line went, after which nothing comes
pub data Finishes (terminal : Bool) (e : FollowEnding) (old : Stage) (console' : ConsoleState) : Type 0 where
  Lacks : e ≡ NoMemory → console' ≡ old.console → Finishes terminal e old console'
  Comes : (heard : Bool) → e ≡ ending_of heard → PutsLast terminal [] heard old console'
      → Finishes terminal e old console'

-- why an answer came, as far as takes go
pub record IsTakeCause (e : FollowEnding) (feed feed' : FeedState) : Type 0 where
  pub alone : e ≢ NotAlone
  pub takes : feed'.faults ≡ takes_after e feed.faults

-- one take was made, and the whole lines in what it gave were put; if it gave nothing, then nothing is left
pub record GoesRound (more : Bool) (feed feed' : FeedState) (f f' : Follower) (console console' : ConsoleState)
    : Type 0 where
  pub came : List ℕ
  pub takes : TakesOnce came feed feed'
  pub none : more ≡ false → IsTrue feed.tells → feed'.left ≡ []
  pub goes : GoesOn came f f' console console'

-- rounds were made, after each of which all whole lines that came were put
pub record GoesRounds (feed feed' : FeedState) (f f' : Follower) (console console' : ConsoleState) : Type 0 where
  pub terminal : f'.teller.terminal ≡ f.teller.terminal
  pub unfinished : IsUnfinished f'.line.items
  pub rounds : List Round
  pub goes : Rounds f.teller.terminal rounds feed feed' (stage_of f console) (stage_of f' console')

-- rounds were made, and the last one found the end of the feed
pub record FindsEnd (feed feed' : FeedState) (f f' : Follower) (console console' : ConsoleState) : Type 0 where
  pub goes : GoesRounds feed feed' f f' console console'
  pub none : IsTrue feed.tells → feed'.left ≡ []

-- the last line was put, if there is one, and nothing after it
pub record PutsRest (terminal heard : Bool) (old : Stage) (known' : Known) (console' : ConsoleState) : Type 0 where
  pub puts : List PutLine
  pub split : old.line ≡ lines_of puts
  pub lines : AreLines puts
  pub follows : Follows terminal puts old.known known'
  pub speaks : SpeaksOn (out_pieces (texts_of puts)) true heard old.console console'
