-- Numbers that are put one by one.
use Rattle.std.proofs.Common.{◌≡◌, ℕ, ◌+◌, ◌-◌, ◌≤◌, ◌<◌, Bool, true, false, List, [], ◌++◌, length, flat_map, unwrap_or, Result, is_ok, refl, sym, ap, ◌∙◌, subst, append_assoc, append-nil, arith}
use Rattle.block_list.specs.declared.status.Status.{Status}
use Rattle.block_list.specs.declared.types.TypeSet.{TypeSet}
use Rattle.block_list.specs.Places.{IsFirst}
use Rattle.rescue_console.specs.ConsoleState.{ConsoleState}
use Rattle.map_algebra.specs.Blocks.{block_of}
use Rattle.map_algebra.specs.Listing.{Wanted, ListingState, IsListed, listed, listed_from, wanted_of}
use Rattle.map_algebra.proofs.ListedLemmas.{block_mono, one_from}
use Rattle.map_algebra.proofs.ListingLemmas.{listings_go_on}
use Rattle.rescue_console.specs.declared.console.ConsoleFault.{ConsoleFault}
use Rattle.ddrescuelog_cli.specs.Printing.{Adds, PutsInPieces, PutsPieces}
use Rattle.ddrescuelog_words.specs.declared.options.LogOptions.{LogOptions}
use Rattle.ddrescuelog_cli.specs.declared.ending.LogEnding.{LogEnding}
use Rattle.ddrescuelog_cli.specs.Maps.{shape_of}
use Rattle.ddrescuelog_cli.specs.Steps.{printed_as}
use Rattle.ddrescuelog_cli.specs.Results.{number_line}
use Rattle.ddrescuelog_cli.proofs.PieceLemmas.{no_pieces, pieces_join, pieces_longer, printed_pieces}

-- the lines of some numbers
abbrev pub lines_of : List ℕ → List ℕ
lines_of ks = flat_map number_line ks

-- the numbers in front of the least that may come were put, but for those in the buffer; the others are to come
pub record NumbersPut (w : Wanted) (begun now : ListingState) (buffer : List ℕ) (old new : ConsoleState) : Type 0 where
  pub part : List ℕ
  pub puts : PutsPieces part true old new
  pub types : now.types ≡ begun.types
  pub shape : now.shape ≡ begun.shape
  pub whole : (part ++ buffer) ++ lines_of (listed_from w now.least) ≡ lines_of (listed w)

pub none_put : (w : Wanted) (begun : ListingState) (buffer : List ℕ) (old : ConsoleState) → begun.least ≡ 0
    → buffer ≡ [] → NumbersPut w begun begun buffer old old
none_put w begun buffer old first empty = record {
  part = [];
  puts = no_pieces old;
  types = refl;
  shape = refl;
  whole =
      ap (λ b. b ++ lines_of (listed_from w begun.least)) empty
      ∙ ap (λ n. lines_of (listed_from w n)) first
      ∙ ap lines_of (listings_go_on w).begins;
}

-- a listing that has come further lists the same
same_wanted : (begun now : ListingState) (domain : ℕ → Bool) (statuses : List Status) → now.types ≡ begun.types
    → now.shape ≡ begun.shape → wanted_of now domain statuses ≡ wanted_of begun domain statuses
same_wanted begun now domain statuses types shape =
    ap (λ t. wanted_of (record { types = t; shape = now.shape; least = 0 }) domain statuses) types
    ∙ ap (λ s. wanted_of (record { types = begun.types; shape = s; least = 0 }) domain statuses) shape

-- what comes next, as the listing sees it
pub next_of : (begun now : ListingState) (domain : ℕ → Bool) (statuses : List Status) (buffer : List ℕ)
    (old new : ConsoleState) (k : ℕ) → NumbersPut (wanted_of begun domain statuses) begun now buffer old new
    → IsFirst (IsListed (wanted_of now domain statuses)) now.least k
    → IsFirst (IsListed (wanted_of begun domain statuses)) now.least k
next_of begun now domain statuses buffer old new k p first =
    subst (λ w. IsFirst (IsListed w) now.least k) (same_wanted begun now domain statuses p.types p.shape) first

pub none_of : (begun now : ListingState) (domain : ℕ → Bool) (statuses : List Status) (buffer : List ℕ)
    (old new : ConsoleState) → NumbersPut (wanted_of begun domain statuses) begun now buffer old new
    → ((k : ℕ) → now.least ≤ k → IsListed (wanted_of now domain statuses) k → ⊥)
    → (k : ℕ) → now.least ≤ k → IsListed (wanted_of begun domain statuses) k → ⊥
none_of begun now domain statuses buffer old new p none k least is =
    none k least (subst (λ w. IsListed w k) (sym (same_wanted begun now domain statuses p.types p.shape)) is)

-- a number that is listed is at most that of the end
listed_below : (w : Wanted) (k : ℕ) → IsListed w k → k ≤ block_of w.shape (length w.statuses)
listed_below w k is =
    let o = one_from w k is in
    omega (arith, o.3, block_mono w.shape o.0 (length w.statuses) (omega (arith, o.1)))

-- fewer are to come after one
pub fewer_left : (w : Wanted) (now now' : ListingState) (k : ℕ) → IsFirst (IsListed w) now.least k
    → now' ≡ record now { least = k + 1 }
    → block_of w.shape (length w.statuses) + 1 - now'.least < block_of w.shape (length w.statuses) + 1 - now.least
fewer_left w now now' k first moved =
    let next : now'.least ≡ k + 1 = ap (λ (s : ListingState). s.least) moved in
    omega (arith, first.after, next, listed_below w k first.holds)

-- parts of a text, put together anew
parts : (a b c d e f : List ℕ) → b ++ d ≡ c ++ e → ((a ++ b) ++ d) ++ f ≡ (a ++ c) ++ (e ++ f)
parts a b c d e f split =
    ap (λ x. x ++ f) (append_assoc a b d ∙ ap (λ x. a ++ x) split ∙ sym (append_assoc a c e))
    ∙ append_assoc (a ++ c) e f

-- the next number was added
pub number_put : (w : Wanted) (begun now now' : ListingState) (before buffer : List ℕ) (k : ℕ)
    (old mid new : ConsoleState) → NumbersPut w begun now before old mid → IsFirst (IsListed w) now.least k
    → now' ≡ record now { least = k + 1 } → Adds (number_line k) before buffer mid new
    → NumbersPut w begun now' buffer old new
number_put w begun now now' before buffer k old mid new p first moved adds = record {
  part = p.part ++ adds.part;
  puts = pieces_join p.part adds.part true old mid new p.puts adds.puts;
  types = ap (λ s. s.types) moved ∙ p.types;
  shape = ap (λ s. s.shape) moved ∙ p.shape;
  whole =
      ap (λ s. ((p.part ++ adds.part) ++ buffer) ++ lines_of (listed_from w s.least)) moved
      ∙ parts p.part adds.part before buffer (number_line k) (lines_of (listed_from w (k + 1))) adds.split
      ∙ sym (ap (λ ks. (p.part ++ before) ++ lines_of ks) ((listings_go_on w).goes_on now.least k first))
      ∙ p.whole;
}

-- the console failed before all numbers had come
pub number_broke : (w : Wanted) (begun now : ListingState) (buffer : List ℕ) (old mid new : ConsoleState)
    → NumbersPut w begun now buffer old mid → PutsPieces buffer false mid new
    → PutsPieces (lines_of (listed w)) false old new
number_broke w begun now buffer old mid new p broke =
    subst (λ t. PutsPieces t false old new) p.whole
    (pieces_longer (p.part ++ buffer) (lines_of (listed_from w now.least)) old new
    (pieces_join p.part buffer false old mid new p.puts broke))

-- the last numbers were put, or the console failed at them
pub numbers_put : (w : Wanted) (begun now : ListingState) (buffer : List ℕ) (heard : Bool) (old mid new : ConsoleState)
    → NumbersPut w begun now buffer old mid → ((k : ℕ) → now.least ≤ k → IsListed w k → ⊥)
    → PutsPieces buffer heard mid new → PutsPieces (lines_of (listed w)) heard old new
numbers_put w begun now buffer heard old mid new p none puts =
    let all : p.part ++ buffer ≡ lines_of (listed w) =
    sym (append-nil (p.part ++ buffer))
    ∙ ap (λ ks. (p.part ++ buffer) ++ lines_of ks) (sym ((listings_go_on w).ends now.least none))
    ∙ p.whole in
    subst (λ t. PutsPieces t heard old new) all (pieces_join p.part buffer heard old mid new p.puts puts)

-- ---- the answer

-- what a listing lists that has just begun
begun_as : (o : LogOptions) (types : TypeSet) (to : ℕ) (begun : ListingState) (domain : ℕ → Bool)
    (statuses : List Status)
    → begun ≡ record { types = types; shape = record { ipos = o.input_position; opos = to; size = o.block }; least = 0 }
    → to ≡ unwrap_or o.output_position o.input_position
    → wanted_of begun domain statuses
    ≡ record { domain = domain; types = types; shape = shape_of o; statuses = statuses }
begun_as o types to begun domain statuses is at =
    ap (λ s. wanted_of s domain statuses) is
    ∙ ap (λ (p : ℕ). record {
      domain = domain;
      types = types;
      shape = record { ipos = o.input_position; opos = p; size = o.block };
      statuses = statuses;
    }) at

pub listed_as : {T : Type 0} (o : LogOptions) (types : TypeSet) (to : ℕ) (begun : ListingState) (domain : ℕ → Bool)
    (statuses : List Status) (r : Result T ConsoleFault) (e : LogEnding) (old new : ConsoleState)
    → begun ≡ record { types = types; shape = record { ipos = o.input_position; opos = to; size = o.block }; least = 0 }
    → to ≡ unwrap_or o.output_position o.input_position → e ≡ printed_as r
    → PutsPieces (lines_of (listed (wanted_of begun domain statuses))) (is_ok r) old new
    → PutsInPieces e
    (lines_of (listed (record { domain = domain; types = types; shape = shape_of o; statuses = statuses }))) old new
listed_as o types to begun domain statuses r e old new is at answer put =
    subst (λ (w : Wanted). PutsInPieces e (lines_of (listed w)) old new)
    (begun_as o types to begun domain statuses is at)
    (printed_pieces r e (lines_of (listed (wanted_of begun domain statuses))) old new answer put)
