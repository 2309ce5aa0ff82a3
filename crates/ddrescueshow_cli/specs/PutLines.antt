-- What is put of the lines of a rescue that is followed, and how such a call goes.
-- For contracts and proofs: no promise uses it.
use Rattle.std.specs.Prelude.{◌≡◌, ◌≢◌, ◌⊎◌, ℕ, ◌<◌, ◌≤◌, ⊤, Bool, true, false, IsTrue, List, [], ◌∷◌, ◌++◌, length, map, None, if◌then◌else◌}
use Rattle.std.specs.List.{All, flat_map}
use Rattle.fault_count.specs.Schedule.{with_call}
use Rattle.program_promise.specs.Saying.{SaysAs}
use Rattle.rescue_console.specs.ConsoleState.{ConsoleState}
use Rattle.rescue_console.specs.FeedState.{FeedState}
use Rattle.rescue_console.specs.Speaking.{SpeaksOn, out_pieces}
use Rattle.ddrescueshow_cli.specs.declared.follow.FollowEnding.{FollowEnding}
use Rattle.ddrescueshow_cli.specs.declared.follow.FollowEnding.TheVariants.{Done, FeedFault, ConsoleFault, NoMemory}
use Rattle.ddrescueshow_cli.specs.declared.follower.Known.{Known}
use Rattle.ddrescueshow_cli.specs.Following.{ending_of, follow_message, is_followed, is_heard}
use Rattle.ddrescueshow_cli.specs.Progress.{IsSaid}

-- ---- lines

-- how long a line is at most; a longer one passes in pieces
abbrev pub longest : ℕ
longest = 4096

-- no byte ends a line
abbrev pub HasNoNewline : List ℕ → Type 0
HasNoNewline line = All (λ byte. byte ≢ 10) line

-- a whole line: it ends with its only newline, or it is as long as a line can be
pub data IsWhole (line : List ℕ) : Type 0 where
  Ended : (front : List ℕ) → line ≡ front ++ 10 ∷ [] → HasNoNewline front → length line ≤ longest → IsWhole line
  Longest : HasNoNewline line → length line ≡ longest → IsWhole line

-- a line that may go on, or no byte of one
pub record IsUnfinished (line : List ℕ) : Type 0 where
  pub unended : HasNoNewline line
  pub short : length line < longest

-- a line that came, and what was put of it
pub record PutLine : Type 0 where
  pub line : List ℕ
  pub text : List ℕ

-- the lines that came, joined
abbrev pub lines_of : List PutLine → List ℕ
lines_of puts = flat_map (λ p. p.line) puts

-- what was put of each line, in order
abbrev pub texts_of : List PutLine → List (List ℕ)
texts_of puts = map (λ p. p.text) puts

-- each line is whole
abbrev pub AreWhole : List PutLine → Type 0
AreWhole [] = ⊤
AreWhole (p ∷ ps) = IsWhole p.line × AreWhole ps

-- each line is whole, except that the last one may be unfinished, and then it has a byte
abbrev pub AreLines : List PutLine → Type 0
AreLines [] = ⊤
AreLines (p ∷ ps) = (IsWhole p.line × AreLines ps) ⊎ (IsUnfinished p.line × (p.line ≢ []) × (ps ≡ []))

-- what is put of each line is what it says after the lines before it, and so is what is known after the last one
abbrev pub Follows : (terminal : Bool) → List PutLine → (known known' : Known) → Type 0
Follows terminal [] known known' = known' ≡ known
Follows terminal (p ∷ ps) known known' =
    (between : Known) × IsSaid terminal known between p.line p.text × Follows terminal ps between known'

-- ---- how far a call has come

-- the line so far, what is known after the lines before it, and the console
pub record Stage : Type 0 where
  pub line : List ℕ
  pub known : Known
  pub console : ConsoleState

-- what is known before the first line
abbrev pub known_at_first : Known
known_at_first = record { is_up = false; size = None; lately = [] }

-- how far a call has come before the first line
abbrev pub first_stage : ConsoleState → Stage
first_stage console = record { line = []; known = known_at_first; console = console }

-- These bytes came after the line so far. The whole lines in them were put, each by one put, and in order; what is left
-- is the new line so far. If a put failed, it is the last one.
pub record PutsLines (terminal : Bool) (came : List ℕ) (heard : Bool) (old new : Stage) : Type 0 where
  pub puts : List PutLine
  pub split : old.line ++ came ≡ lines_of puts ++ new.line
  pub whole : AreWhole puts
  pub follows : Follows terminal puts old.known new.known
  pub speaks : SpeaksOn (out_pieces (texts_of puts)) true heard old.console new.console

-- what is put after the last line: a newline, if a line of figures is up
abbrev pub end_texts : Known → List (List ℕ)
end_texts known = if known.is_up then (10 ∷ []) ∷ [] else []

-- These bytes came after the line so far, and no others come. All lines were put, each by one put, and in order, and
-- then the newline after the last one. If a put failed, it is the last one.
pub record PutsLast (terminal : Bool) (came : List ℕ) (heard : Bool) (old : Stage) (console' : ConsoleState)
    : Type 0 where
  pub puts : List PutLine
  pub split : old.line ++ came ≡ lines_of puts
  pub lines : AreLines puts
  pub known : Known
  pub follows : Follows terminal puts old.known known
  pub speaks : SpeaksOn (out_pieces (texts_of puts ++ end_texts known)) true heard old.console console'

-- ---- how a call goes

-- these bytes were taken from a feed, if it tells
pub record Takes (came : List ℕ) (feed feed' : FeedState) : Type 0 where
  pub tells : feed'.tells ≡ feed.tells
  pub taken : IsTrue feed.tells → feed.left ≡ came ++ feed'.left

-- a feed was asked once: if it counts its calls, there is one more
pub record AsksOnce (feed feed' : FeedState) : Type 0 where
  pub scheduled : feed'.is_scheduled ≡ feed.is_scheduled
  pub one : IsTrue feed.is_scheduled → feed'.schedule ≡ with_call feed.schedule

-- one take gave these bytes, at most as many as the longest line has
pub record TakesOnce (came : List ℕ) (feed feed' : FeedState) : Type 0 where
  pub takes : Takes came feed feed'
  pub asks : AsksOnce feed feed'
  pub few : length came ≤ longest

-- a round of a call: what one take gave, the feed after it, and how far the call has come when the lines are put
pub record Round : Type 0 where
  pub came : List ℕ
  pub after : FeedState
  pub stage : Stage

-- Rounds, one after another. Before a round's take, each whole line that came in the rounds before it was put.
abbrev pub Rounds : (terminal : Bool) → List Round → (feed feed' : FeedState) → (old new : Stage) → Type 0
Rounds terminal [] feed feed' old new = (feed' ≡ feed) × (new ≡ old)
Rounds terminal (r ∷ rs) feed feed' old new =
    TakesOnce r.came feed r.after × PutsLines terminal r.came true old r.stage × IsUnfinished r.stage.line
    × Rounds terminal rs r.after feed' r.stage new

-- of the lines in what a take gave not all could be put: a put failed, which is the last one, or memory ran out
pub record StopsIn (terminal : Bool) (came : List ℕ) (e : FollowEnding) (old : Stage) (console' : ConsoleState)
    : Type 0 where
  pub line : List ℕ
  pub known : Known
  pub ending : (e ≡ NoMemory) ⊎ (e ≡ ConsoleFault)
  pub puts : PutsLines terminal came (is_heard e) old (record { line = line; known = known; console = console' })

-- how a call broke off after some rounds: it made one more take, which failed, or whose lines couldn't all be put; or
-- memory ran out before it made one
pub data Breaks (terminal : Bool) (e : FollowEnding) (feed feed' : FeedState) (old : Stage) (console' : ConsoleState)
    : Type 0 where
  Untaken : e ≡ FeedFault → Takes [] feed feed' → AsksOnce feed feed' → console' ≡ old.console
      → Breaks terminal e feed feed' old console'
  Unput : (came : List ℕ) → TakesOnce came feed feed' → StopsIn terminal came e old console'
      → Breaks terminal e feed feed' old console'
  Starved : e ≡ NoMemory → feed' ≡ feed → console' ≡ old.console → Breaks terminal e feed feed' old console'

-- A call broke off before all was put. Before its last take, all whole lines that had come were put.
pub record BreaksOff (terminal : Bool) (e : FollowEnding) (feed feed' : FeedState) (old : Stage)
    (console' : ConsoleState) : Type 0 where
  pub rounds : List Round
  pub last : FeedState
  pub stage : Stage
  pub goes : Rounds terminal rounds feed last old stage
  pub breaks : Breaks terminal e last feed' stage console'

-- A call came to the end of the feed, before which all whole lines were put. Then the rest was put, or a put failed.
pub record ComesToEnd (terminal : Bool) (e : FollowEnding) (feed feed' : FeedState) (old : Stage)
    (console' : ConsoleState) : Type 0 where
  pub rounds : List Round
  pub stage : Stage
  pub goes : Rounds terminal rounds feed feed' old stage
  pub none : IsTrue feed.tells → feed'.left ≡ []
  pub heard : Bool
  pub is : e ≡ ending_of heard
  pub puts : PutsLast terminal [] heard stage console'

-- how a call goes before the message: it broke off, or came to the end of the feed
abbrev pub Goes : (terminal : Bool) → FollowEnding → (feed feed' : FeedState) → Stage → ConsoleState → Type 0
Goes terminal e feed feed' old console' =
    BreaksOff terminal e feed feed' old console' ⊎ ComesToEnd terminal e feed feed' old console'

-- All that is put: first what is put of the lines, and then one message, unless all was put.
pub record PutsAll (terminal : Bool) (e : FollowEnding) (feed feed' : FeedState) (console console' : ConsoleState)
    : Type 0 where
  pub between : ConsoleState
  pub goes : Goes terminal e feed feed' (first_stage console) between
  pub says : SaysAs (is_followed e) false (follow_message e) between console'

-- ---- after `Done`

-- All lines of a feed are on standard output, after what was there.
pub record HasAllLines (terminal : Bool) (feed : FeedState) (console console' : ConsoleState) : Type 0 where
  pub puts : List PutLine
  pub all : lines_of puts ≡ feed.left
  pub lines : AreLines puts
  pub known : Known
  pub follows : Follows terminal puts known_at_first known
  pub out : console'.out.text ≡ console.out.text ++ flat_map (λ text. text) (texts_of puts ++ end_texts known)

-- After `Done`, all lines of the feed are on standard output, if the feed and the console tell what they did.
abbrev pub AllLinesArePut : Type 0
AllLinesArePut = (terminal : Bool) (feed feed' : FeedState) (console console' : ConsoleState) → IsTrue feed.tells
    → IsTrue console.tells → PutsAll terminal Done feed feed' console console'
    → HasAllLines terminal feed console console'
