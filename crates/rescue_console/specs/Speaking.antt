-- What is put on a console, piece by piece, up to the first put that fails.
use Rattle.std.specs.Prelude.{◌≡◌, ◌⊎◌, ℕ, Bool, true, false, IsTrue, List, [], ◌∷◌, ◌++◌, map}
use Rattle.fault_count.specs.Schedule.{with_call}
use Rattle.rescue_console.specs.declared.console.Channel.{Channel}
use Rattle.rescue_console.specs.declared.console.Channel.TheVariants.{Out, Err}
use Rattle.rescue_console.specs.ConsoleState.{ConsoleState, channel_of, Puts, PutsPart}

-- a text for a channel
pub record SpokenPiece : Type 0 where
  pub channel : Channel
  pub text : List ℕ

-- texts for standard output
abbrev pub out_pieces : List (List ℕ) → List SpokenPiece
out_pieces texts = map (λ t. record { channel = Out; text = t }) texts

-- a piece was put whole, by one put
pub record PutsWhole (p : SpokenPiece) (old new : ConsoleState) : Type 0 where
  pub puts : Puts p.channel p.text old new
  pub one : IsTrue old.is_scheduled → new.schedule ≡ with_call old.schedule

-- a beginning of a piece was put, by one put that failed
pub record PutsBroken (p : SpokenPiece) (old new : ConsoleState) : Type 0 where
  pub puts : PutsPart p.channel p.text old new
  pub one : IsTrue old.is_scheduled → new.schedule ≡ with_call old.schedule

-- Pieces are put in order, each by one put. One that fails is the last: after it nothing is put, on either channel.
abbrev pub Speaks : List SpokenPiece → (old new : ConsoleState) → Type 0
Speaks [] old new = new ≡ old
Speaks (p ∷ ps) old new =
    ((between : ConsoleState) × PutsWhole p old between × Speaks ps between new) ⊎ PutsBroken p old new

-- Pieces are put in order by one who has been heard so far, or not: who isn't heard says nothing; who is heard stays so
-- while each put succeeds.
abbrev pub SpeaksOn : List SpokenPiece → (heard heard' : Bool) → (old new : ConsoleState) → Type 0
SpeaksOn ps false heard' old new = (heard' ≡ false) × (new ≡ old)
SpeaksOn [] true heard' old new = (heard' ≡ true) × (new ≡ old)
SpeaksOn (p ∷ ps) true heard' old new =
    ((between : ConsoleState) × PutsWhole p old between × SpeaksOn ps true heard' between new)
    ⊎ ((heard' ≡ false) × PutsBroken p old new)

-- the text of a piece on a channel, which is empty on the other one
abbrev pub text_on : Channel → (channel : Channel) → List ℕ → List ℕ
text_on Out Out text = text
text_on Out Err text = []
text_on Err Out text = []
text_on Err Err text = text

-- the texts of pieces on a channel, joined
abbrev pub texts_on : Channel → List SpokenPiece → List ℕ
texts_on channel [] = []
texts_on channel (p ∷ ps) = text_on channel p.channel p.text ++ texts_on channel ps

-- What is put in two parts, one after the other, is put together.
abbrev pub SpeechesJoin : Type 0
SpeechesJoin = (ps qs : List SpokenPiece) (h h' h'' : Bool) (a b c : ConsoleState) → SpeaksOn ps h h' a b
    → SpeaksOn qs h' h'' b c → SpeaksOn (ps ++ qs) h h'' a c

-- Who is heard at first speaks.
abbrev pub HeardSpeak : Type 0
HeardSpeak = (ps : List SpokenPiece) (h' : Bool) (a b : ConsoleState) → SpeaksOn ps true h' a b → Speaks ps a b

-- One piece takes one put.
abbrev pub OnePieceIsSaid : Type 0
OnePieceIsSaid = (p : SpokenPiece) (a b : ConsoleState) → PutsWhole p a b → SpeaksOn (p ∷ []) true true a b

-- Who is heard at last has put all pieces: if the console tells, a channel's texts come after what was on it.
abbrev pub SpokenIsPut : Type 0
SpokenIsPut = (ps : List SpokenPiece) (a b : ConsoleState) → SpeaksOn ps true true a b → IsTrue a.tells
    → (channel : Channel) → (channel_of channel b).text ≡ (channel_of channel a).text ++ texts_on channel ps
