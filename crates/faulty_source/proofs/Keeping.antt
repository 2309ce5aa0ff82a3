-- What stays so from a state to itself, and across two things done one after the other.
use Rattle.std.proofs.Common.{◌≡◌, List, [], ◌∷◌, ◌++◌, refl, ap, sym, ◌∙◌, arith, append_assoc}
use Rattle.std.proofs.lemmas.List.{append-nil}
use Rattle.faulty_source.specs.Journal.{Reading}
use Rattle.faulty_source.specs.JournalGains.{JournalGains, AllGain}
use Rattle.faulty_source.specs.SourceState.{SourceState}
use Rattle.faulty_source.specs.SourceChanges.{Keeps, Stays, Reads}

pub gains_none : (journal : List Reading) → JournalGains journal journal
gains_none journal = record { reads = []; told = sym (append-nil journal) }

pub gains_more : (a b c : List Reading) → JournalGains a b → JournalGains b c → JournalGains a c
gains_more a b c f g = record {
  reads = f.reads ++ g.reads;
  told = g.told ∙ ap (λ (r : List Reading). r ++ g.reads) f.told ∙ append_assoc a f.reads g.reads;
}

all_gain_none : (journals : List (List Reading)) → AllGain journals journals
all_gain_none [] = tt
all_gain_none (x ∷ xs) = (gains_none x, all_gain_none xs)

all_gain_more : (xs ys zs : List (List Reading)) → AllGain xs ys → AllGain ys zs → AllGain xs zs
all_gain_more [] [] [] f g = tt
all_gain_more [] [] (z ∷ zs) f g = absurd g
all_gain_more [] (y ∷ ys) zs f g = absurd f
all_gain_more (x ∷ xs) [] zs f g = absurd f
all_gain_more (x ∷ xs) (y ∷ ys) [] f g = absurd g
all_gain_more (x ∷ xs) (y ∷ ys) (z ∷ zs) f g = (gains_more x y z f.0 g.0, all_gain_more xs ys zs f.1 g.1)

pub keeps_self : (s : SourceState) → Keeps s s
keeps_self s = record {
  tells = refl;
  scheduled = refl;
  bytes = λ tells. refl;
  end = λ tells. refl;
  opens = omega arith;
  faults = omega arith;
  losses = omega arith;
  below = refl;
  journals_below = λ tells. all_gain_none s.journals_below;
}

pub keeps_more : (a b c : SourceState) → Keeps a b → Keeps b c → Keeps a c
keeps_more a b c f g = record {
  tells = g.tells ∙ f.tells;
  scheduled = g.scheduled ∙ f.scheduled;
  bytes = λ tells. g.bytes (rw f.tells tells) ∙ f.bytes tells;
  end = λ tells. g.end (rw f.tells tells) ∙ f.end tells;
  opens = omega (arith, f.opens, g.opens);
  faults = omega (arith, f.faults, g.faults);
  losses = omega (arith, f.losses, g.losses);
  below = g.below ∙ f.below;
  journals_below = λ tells. all_gain_more a.journals_below b.journals_below c.journals_below (f.journals_below tells)
      (g.journals_below (rw f.tells tells));
}

pub stays_self : (s : SourceState) → Stays s s
stays_self s = record { keeps = keeps_self s; input = refl; name = λ tells. refl; opens = refl; faults = refl }

pub stays_more : (a b c : SourceState) → Stays a b → Stays b c → Stays a c
stays_more a b c f g = record {
  keeps = keeps_more a b c f.keeps g.keeps;
  input = g.input ∙ f.input;
  name = λ tells. g.name (rw f.keeps.tells tells) ∙ f.name tells;
  opens = g.opens ∙ f.opens;
  faults = g.faults ∙ f.faults;
}

pub reads_more : (xs ys : List Reading) (a b c : SourceState) → b.tells ≡ a.tells → Reads xs a b → Reads ys b c
    → Reads (xs ++ ys) a c
reads_more xs ys a b c same f g = record {
  told = λ tells. g.told (rw same tells) ∙ ap (λ (r : List Reading). r ++ ys) (f.told tells) ∙ append_assoc a.journal xs ys;
  losses = g.losses ∙ f.losses;
}
