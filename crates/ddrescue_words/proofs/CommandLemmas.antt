-- What a reading asks for is within limits.
use Rattle.std.proofs.Common.{◌≡◌, ℕ, ◌||◌, is_some, ◌<◌, ◌≤◌, Bool, true, false, cond, nat_lt, List, [], ◌∷◌, Option, Some, None, Result, Ok, Err, IfSome, refl, sym, ◌∙◌, ap, subst, arith}
use Rattle.std.proofs.lemmas.Bool.Decides.{nat_tests}
use Rattle.size_suffixes.specs.Sectors.{largest_cluster}
use Rattle.block_list.specs.declared.types.TypeSet.{TypeSet}
use Rattle.option_words.specs.declared.row.Row.{Row}
use Rattle.option_words.specs.declared.reading.Item.{Item}
use Rattle.option_words.specs.declared.fault.UsageFault.{UsageFault}
use Rattle.option_words.specs.declared.fault.UsageFault.TheVariants.{BadValue}
use Rattle.option_words.specs.Reading.{IsReading}
use Rattle.option_words.specs.Values.{empty_operand, is_given, quiet_letter}
use Rattle.option_words.specs.Grammar.{unless_empty}
use Rattle.option_words.proofs.KeepLemmas.{AreKept}
use Rattle.option_words.proofs.MeaningLemmas.{asked_within}
use Rattle.option_words.proofs.ResultLemmas.{unless_part, untested_part}
use Rattle.ddrescue_words.specs.declared.options.Options.{Options}
use Rattle.ddrescue_words.specs.declared.command.Task.{Task as TaskCode}
use Rattle.ddrescue_words.specs.Options.{cluster_of, option_meanings, options_in, sectors_of}
use Rattle.ddrescue_words.specs.Command.{Command, Task, Rescue, Fill, Generate, Sample}
use Rattle.ddrescue_words.specs.Asking.{MapOptions, AreInLimits, AreOptions, IsAsked, IsInLimits, IsSampleSize, IsTask, cluster_word, command_with, conflict_in, files_task, is_quiet, is_too_large, maps_in, mode_task, rescue_grammar, sample_task, task_by, task_from, task_in, task_with, unless_conflict, wants_mapfile}
use Rattle.ddrescue_words.proofs.OptionLemmas.{AreInRange, options_keep, rescue_kept}

abbrev told : Command → Result Command UsageFault
told c = Ok c

abbrev told_task : Task → Result Task UsageFault
told_task t = Ok t

-- what a command says of the options that it was made of
record IsMadeOf (o : Options) (c : Command) : Type 0 where
  options : c.options ≡ o
  mapfile : wants_mapfile o ≡ true → is_some c.mapfile ≡ true

made_so : (o : Options) (c c' : Command) → IsMadeOf o c → told c ≡ told c' → IsMadeOf o c'
made_so o c c' h e = let same : c ≡ c' = cc in subst (IsMadeOf o) same h

unless_refused : (b : Bool) (f : UsageFault) (o : Options) (c c' : Command) → c.options ≡ o → wants_mapfile o ≡ b
    → cond b (Err f) (told c) ≡ told c' → IsMadeOf o c'
unless_refused true f o c c' of is e = absurd (cc)
unless_refused false f o c c' of is e =
    made_so o c c' (record { options = of; mapfile = λ wants. absurd (cc) }) e

with_options : (words : List (List ℕ)) (m : MapOptions) (o : Options) (os : List ℕ) (c : Command)
    → command_with words m o os ≡ told c → IsMadeOf o c
with_options words m o (i ∷ out ∷ []) c e = unless_refused (wants_mapfile o) _ o _ c refl refl e
with_options words m o (i ∷ out ∷ map ∷ []) c e =
    made_so o _ c (record { options = refl; mapfile = λ wants. refl }) e
with_options words m o _ c e = absurd (cc)

-- what files are for, where no sample is asked for
pub named_task : (words : List (List ℕ)) (items : List Item) (o : Options) (n : Option ℕ) (os : List ℕ) (c : Command)
    (t : Task) → n ≡ None → command_with words (maps_in words items) o os ≡ told c
    → t ≡ mode_task c.options.fill c.options.generate c → task_with words items o n os ≡ told_task t
named_task words items o n os c t none named is =
    let made = with_options words (maps_in words items) o os c named in
    ap (λ (k : Option ℕ). task_with words items o k os) none ∙ ap (files_task o) named
    ∙ ap (λ (x : Options). told_task (mode_task x.fill x.generate c)) (sym made.options) ∙ ap told_task (sym is)

unless_refuses : (n : Option ℕ) (r : Result Task UsageFault) (t : Task) → unless_conflict n r ≡ told_task t
    → r ≡ told_task t
unless_refuses None r t e = e
unless_refuses (Some n) r t e = absurd (cc)

-- files, with a mapfile, by these options
record WithMapfile (o : Options) (c : Command) : Type 0 where
  options : c.options ≡ o
  named : is_some c.mapfile ≡ true

-- what a task says of the options that it was made of
abbrev MadeOf : Options → Task → Type 0
MadeOf o (Rescue c) = c.options ≡ o
MadeOf o (Fill types c) = WithMapfile o c
MadeOf o (Generate c) = WithMapfile o c
MadeOf o (Sample kib quiet) = (o.sample ≡ Some kib) × (o.quiet ≡ quiet)

wants_by_mode : (a b : Bool) → b ≡ true → (a || b) ≡ true
wants_by_mode true b is = refl
wants_by_mode false b is = is

wants_by_fill : (a b c : Bool) → b ≡ true → ((a || b) || c) ≡ true
wants_by_fill true b c is = refl
wants_by_fill false true c is = refl
wants_by_fill false false c is = absurd (cc)

of_mode : (o : Options) (c : Command) (fill : Option TypeSet) (generates : Bool) → o.fill ≡ fill
    → o.generate ≡ generates → IsMadeOf o c → MadeOf o (mode_task fill generates c)
of_mode o c (Some types) generates f g h = record {
  options = h.options;
  named = h.mapfile (wants_by_fill o.complete_only (is_some o.fill) o.generate (rw f refl));
}
of_mode o c None true f g h = record {
  options = h.options;
  named = h.mapfile (wants_by_mode (o.complete_only || is_some o.fill) o.generate g);
}
of_mode o c None false f g h = h.options

made_files : (r : Result Command UsageFault) (o : Options) (t : Task) → ((c : Command) → r ≡ told c → IsMadeOf o c)
    → files_task o r ≡ told_task t → MadeOf o t
made_files (Ok c) o t by e =
    let same : mode_task o.fill o.generate c ≡ t = cc in
    subst (MadeOf o) same (of_mode o c o.fill o.generate refl refl (by c refl))
made_files (Err f) o t by e = absurd (cc)

made_sample : (kib : ℕ) (o : Options) (os : List ℕ) (t : Task) → o.sample ≡ Some kib
    → sample_task kib o.quiet os ≡ told_task t → MadeOf o t
made_sample kib o [] t is e = let same : Sample kib o.quiet ≡ t = cc in subst (MadeOf o) same (is, refl)
made_sample kib o (n ∷ more) t is e = absurd (cc)

made_of : (words : List (List ℕ)) (items : List Item) (o : Options) (n : Option ℕ) (os : List ℕ) (t : Task)
    → o.sample ≡ n → task_with words items o n os ≡ told_task t → MadeOf o t
made_of words items o None os t is e =
    let m = maps_in words items in
    made_files (command_with words m o os) o t (λ c r. with_options words m o os c r) e
made_of words items o (Some kib) os t is e = made_sample kib o os t is e

-- options that are accepted give no cluster that is too large
record AreAccepted (r : Result Options ℕ) (o : Options) : Type 0 where
  read : r ≡ Ok o
  small : is_too_large o ≡ false

-- the options that a task was made of
record Made (r : Result Options ℕ) (t : Task) : Type 0 where
  options : Options
  accepted : AreAccepted r options
  made : MadeOf options t

options_by : (words : List (List ℕ)) (items : List Item) (r : Result Options ℕ) (os : List ℕ) (t : Task)
    → task_from words items r os ≡ told_task t → Made r t
options_by words items (Err n) os t e = absurd (cc)
options_by words items (Ok o) os t e =
    let asked = task_with words items o o.sample os in
    let together = unless_conflict (conflict_in (is_some o.sample) items) asked in
    let p = untested_part (is_too_large o) (BadValue (cluster_word items))
    (unless_empty (empty_operand words os) together) t e in
    let named = unless_refuses (conflict_in (is_some o.sample) items) asked t
    (unless_part (empty_operand words os) together t p.1) in
    record {
      options = o;
      accepted = record { read = refl; small = p.0 };
      made = made_of words items o o.sample os t refl named;
    }

some_sectors : (o : Options) (n : Option ℕ) → IfSome n (λ k. 0 < k) → 0 < sectors_of o n
some_sectors o None h = omega arith
some_sectors o (Some k) h = h

pub not_above : (m n : ℕ) → nat_lt m n ≡ false → n ≤ m
not_above m n e = grind (arith, nat_tests)

pub in_limits : (o : Options) → AreInRange o.sector o → is_too_large o ≡ false → AreInLimits o
in_limits o h e = record {
  sector = h.sector.low;
  sector_max = h.sector.high;
  sectors = some_sectors o o.cluster_sectors h.cluster;
  cluster_max = not_above largest_cluster (cluster_of o) e;
  skip = h.skips.order;
  skip_max = h.skips.below;
  input_position = h.input;
  output_position = h.output;
  retries = h.retries;
}

sample_size : (m : Option ℕ) (kib : ℕ) → m ≡ Some kib → IfSome m IsSampleSize → IsSampleSize kib
sample_size m kib is h = subst (λ (n : Option ℕ). IfSome n IsSampleSize) is h

-- a task is within its limits where the options are that it was made of
limits_of : (o : Options) (t : Task) (quiet : Bool) → AreKept rescue_kept o quiet → is_too_large o ≡ false → MadeOf o t
    → IsInLimits t
limits_of o (Rescue c) quiet k small made = subst AreInLimits (sym made) (in_limits o k.range small)
limits_of o (Sample kib quiet') quiet k small made = sample_size o.sample kib made.0 k.range.sample
limits_of o _ quiet k small made =
    record { limits = subst AreInLimits (sym made.options) (in_limits o k.range small); named = made.named }

-- and asks that nothing be said where they do
quiet_of : (o : Options) (t : Task) → MadeOf o t → is_quiet t ≡ o.quiet
quiet_of o (Rescue c) made = ap (λ (x : Options). x.quiet) made
quiet_of o (Fill types c) made = ap (λ (x : Options). x.quiet) made.options
quiet_of o (Generate c) made = ap (λ (x : Options). x.quiet) made.options
quiet_of o (Sample kib quiet) made = sym made.1

-- what a reading asks for is what its words ask for, and nothing else
pub reading_asks : (words : List (List ℕ)) (rows : List Row) (is : List Item) (os : List ℕ) (t : Task)
    → AreOptions rows → IsReading rows words is os → task_in words is os ≡ told_task t → IsAsked words t
reading_asks words rows is os t o r e =
    let m = options_by words is (options_in words is) os t e in
    let keeps = options_keep words is m.options m.accepted.read in
    asked_within rescue_grammar words rows is os t (IsInLimits t) (is_quiet t) o r e
    (limits_of m.options t (is_given option_meanings quiet_letter is) keeps m.accepted.small m.made)
    (quiet_of m.options t m.made ∙ keeps.quiet_is)

-- the same of a task as the code has it
pub reading_tasks : (words : List (List ℕ)) (rows : List Row) (is : List Item) (os : List ℕ) (t : TaskCode)
    → AreOptions rows → IsReading rows words is os → task_in words is os ≡ Ok (task_by t) → IsTask words t
reading_tasks words rows is os t o r e = reading_asks words rows is os (task_by t) o r e
