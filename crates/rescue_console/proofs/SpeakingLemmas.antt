-- What is said, in parts.
use Rattle.std.proofs.Common.{◌≡◌, ℕ, Bool, true, false, IsTrue, List, [], ◌∷◌, ◌++◌, inl, inr, refl, subst, ap, ◌∙◌, sym, append_assoc}
use Rattle.std.proofs.lemmas.List.{append-nil}
use Rattle.rescue_console.specs.declared.console.Channel.{Channel}
use Rattle.rescue_console.specs.declared.console.Channel.TheVariants.{Out, Err}
use Rattle.rescue_console.specs.ConsoleState.{ConsoleState, channel_of, Puts}
use Rattle.rescue_console.specs.Speaking.{SpokenPiece, PutsBroken, SpeaksOn, SpeechesJoin, HeardSpeak, OnePieceIsSaid, SpokenIsPut, text_on, texts_on}

unheard : (qs : List SpokenPiece) (h' : Bool) (a b : ConsoleState) → SpeaksOn qs false h' a b → (h' ≡ false) × (b ≡ a)
unheard [] h' a b is = is
unheard (q ∷ qs) h' a b is = is

unheard_after : (qs : List SpokenPiece) (h' h'' : Bool) (b c : ConsoleState) → h' ≡ false → SpeaksOn qs h' h'' b c
    → (h'' ≡ false) × (c ≡ b)
unheard_after qs h' h'' b c f is = unheard qs h'' b c (subst (λ (h : Bool). SpeaksOn qs h h'' b c) f is)

pub speeches_join : SpeechesJoin
speeches_join [] qs true h' h'' a b c first second =
    subst (λ (x : ConsoleState). SpeaksOn qs true h'' x c) first.1
    (subst (λ (h : Bool). SpeaksOn qs h h'' b c) first.0 second)
speeches_join [] qs false h' h'' a b c first second =
    subst (λ (x : ConsoleState). SpeaksOn qs false h'' x c) first.1
    (subst (λ (h : Bool). SpeaksOn qs h h'' b c) first.0 second)
speeches_join (p ∷ ps) qs false h' h'' a b c first second =
    let last : (h'' ≡ false) × (c ≡ b) = unheard_after qs h' h'' b c first.0 second in (last.0, last.1 ∙ first.1)
speeches_join (p ∷ ps) qs true h' h'' a b c (inl first) second =
    inl (first.0, first.1, speeches_join ps qs true h' h'' first.0 b c first.2 second)
speeches_join (p ∷ ps) qs true h' h'' a b c (inr first) second =
    let last : (h'' ≡ false) × (c ≡ b) = unheard_after qs h' h'' b c first.0 second in
    inr (last.0, subst (λ (x : ConsoleState). PutsBroken p a x) (sym last.1) first.1)

pub heard_speak : HeardSpeak
heard_speak [] h' a b is = is.1
heard_speak (p ∷ ps) h' a b (inl first) = inl (first.0, first.1, heard_speak ps h' first.0 b first.2)
heard_speak (p ∷ ps) h' a b (inr broken) = inr broken.1

pub one_piece_is_said : OnePieceIsSaid
one_piece_is_said p a b puts = inl (b, puts, (refl, refl))

-- a put goes to its channel, and leaves the other one
put_on : (at : Channel) (text : List ℕ) (a b : ConsoleState) → Puts at text a b → IsTrue a.tells → (channel : Channel)
    → (channel_of channel b).text ≡ (channel_of channel a).text ++ text_on channel at text
put_on Out text a b p tells Out = p.whole tells
put_on Out text a b p tells Err = ap (λ c. c.text) p.stays.other ∙ sym (append-nil a.err.text)
put_on Err text a b p tells Out = ap (λ c. c.text) p.stays.other ∙ sym (append-nil a.out.text)
put_on Err text a b p tells Err = p.whole tells

pub spoken_is_put : SpokenIsPut
spoken_is_put [] a b is tells channel =
    ap (λ s. (channel_of channel s).text) is.1 ∙ sym (append-nil (channel_of channel a).text)
spoken_is_put (p ∷ ps) a b (inl first) tells channel =
    let m : ConsoleState = first.0 in
    let here = put_on p.channel p.text a m first.1.puts tells channel in
    let rest = spoken_is_put ps m b first.2 (subst IsTrue (sym first.1.puts.stays.keeps.tells) tells) channel in
    rest ∙ ap (λ t. t ++ texts_on channel ps) here
    ∙ append_assoc (channel_of channel a).text (text_on channel p.channel p.text) (texts_on channel ps)
spoken_is_put (p ∷ ps) a b (inr broken) tells channel = absurd (cc broken.0)

-- who says nothing is heard as before
pub says_none : (heard : Bool) (console : ConsoleState) → SpeaksOn [] heard heard console console
says_none true console = (refl, refl)
says_none false console = (refl, refl)
