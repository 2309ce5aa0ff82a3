-- What is said before a run is what is due.
use Rattle.std.proofs.Common.{◌≡◌, ◌≤◌, ◌+◌, ℕ, zero, suc, Bool, true, false, List, [], ◌∷◌, Option, Some, None, All, get_or, refl, sym, subst, arith}
use Rattle.std.specs.Prelude.{⊤, ◌-◌, ◌%◌, not, ◌||◌, is_none, nat_lt, nat_le, nat_eq}
use Rattle.std.specs.List.{Contains}
use Rattle.std.proofs.lemmas.List.Elements.{All-nil, All-cons, Contains-append_left, Contains-append_right, Contains-push}
use Rattle.kernel_devices.specs.declared.devices.Mounting.{Mounting}
use Rattle.rescue_warnings.specs.declared.facts.Facts.{Facts}
use Rattle.rescue_warnings.specs.declared.facts.Storage.{Storage}
use Rattle.rescue_warnings.specs.declared.advice.Advice.{Advice}
use Rattle.rescue_warnings.specs.declared.advice.Advice.TheVariants.{OutfileShort, MapPastInfile, EmptyInfile, BeginsPastInfile, NothingAsked, NothingListed, NewMapfile, LinkedMapfile, UnsafeOutfile, UnsafeMapfile, NewOutfile, NothingToFill, LongPattern, OtherSector, MountedInfile, OutfileOnDisk, MapfileOnDisk, LongPlan, NothingToCompare, LateMapfile, EmptyDomain, MapBeforeInfile, NoLength}
use Rattle.rescue_warnings.specs.Due.{Ascends, IsAdvice, IsDue, asked_end, asks_for_all, asks_infile, begins_past_infile, bytes_of, empty_domain, empty_infile, end_of, finished_of, finishes_nothing, if_known, if_mounted, if_so, if_stored, is_absent, is_character_device, is_comparison, is_fill, is_new, is_plan, is_rescue, is_writable, kinds, late_mapfile, length_of, linked_mapfile, lists_nothing, long_pattern, long_plan, map_before_infile, map_past_infile, mapfile_on_disk, may_be_held, may_forget, mounted_infile, new_mapfile, new_outfile, no_length, nothing_asked, nothing_listed, nothing_to_compare, nothing_to_fill, of_kind, other_sector, outfile_on_disk, outfile_short, rank, reads_infile, saves, sector_of, sectors_past, somes, unsafe_mapfile, unsafe_outfile, within, writes_outfile}

-- what is due by it, if anything is, is so
record Only (P : Advice → Type 0) (due : Option Advice) : Type 0 where
  all : (a : Advice) → due ≡ Some a → P a

same : (c a : Advice) → Some c ≡ Some a → c ≡ a
same c a e = cc

no_advice : {X : Type 0} (a : Advice) → None ≡ Some a → X
no_advice a e = cc

one : (P : Advice → Type 0) (c : Advice) → P c → Only P (Some c)
one P c p = record { all = λ a e. subst P (same c a e) p }

none : (P : Advice → Type 0) → Only P None
none P = record { all = λ a e. no_advice a e }

so : (P : Advice → Type 0) (b : Bool) (due : Option Advice) → Only P due → Only P (if_so b due)
so P true due h = h
so P false due h = none P

of : (P : Advice → Type 0) (n : Option ℕ) (due : ℕ → Option Advice) → ((k : ℕ) → Only P (due k)) → Only P (if_known n due)
of P (Some k) due h = h k
of P None due h = none P

stored : (P : Advice → Type 0) (kind : Option Storage) (due : Storage → Option Advice) → ((k : Storage) → Only P (due k))
    → Only P (if_stored kind due)
stored P (Some k) due h = h k
stored P None due h = none P

mounted : (P : Advice → Type 0) (kind : Option Mounting) (due : Mounting → Option Advice)
    → ((k : Mounting) → Only P (due k)) → Only P (if_mounted kind due)
mounted P (Some k) due h = h k
mounted P None due h = none P

-- an advice is of the kind that a definition is about, with this place in the enum
abbrev IsOf : Facts → ℕ → Option Advice → Advice → Type 0
IsOf f k due a = (of_kind a f ≡ due) × (rank a ≡ k)

-- each of some kinds yields advice of itself; the first one's place in the enum is k
abbrev AreKinds : Facts → ℕ → List (Option Advice) → Type 0
AreKinds f k [] = ⊤
AreKinds f k (due ∷ rest) = Only (IsOf f k due) due × AreKinds f (k + 1) rest

all_due : (f : Facts) (k : ℕ) (dues : List (Option Advice)) → AreKinds f k dues → All (IsDue f) (somes dues)
all_due f k [] h = All-nil (IsDue f)
all_due f k (Some a ∷ rest) h = All-cons (IsDue f) a (somes rest) (h.0.all a refl).0 (all_due f (k + 1) rest h.1)
all_due f k (None ∷ rest) h = all_due f (k + 1) rest h.1

ascends : (f : Facts) (k from : ℕ) (dues : List (Option Advice)) → AreKinds f k dues → from ≤ k → Ascends from (somes dues)
ascends f k from [] h low = tt
ascends f k from (Some a ∷ rest) h low =
    let e : rank a ≡ k = (h.0.all a refl).1 in
    (omega (arith, e, low), ascends f (k + 1) (rank a + 1) rest h.1 (omega (arith, e)))
ascends f k from (None ∷ rest) h low = ascends f (k + 1) from rest h.1 (omega (arith, low))

at_front : (b a : Advice) (rest : List Advice) → b ≡ a → Contains (b ∷ rest) a
at_front b a rest e = subst (λ x. Contains (b ∷ rest) x) e (Contains-append_left (b ∷ []) rest b (Contains-push [] b))

contained : (k : ℕ) (dues : List (Option Advice)) (a : Advice) → get_or dues k None ≡ Some a → Contains (somes dues) a
contained k [] a e = no_advice a e
contained zero (Some b ∷ rest) a e = at_front b a (somes rest) (same b a e)
contained zero (None ∷ rest) a e = no_advice a e
contained (suc k) (Some b ∷ rest) a e = Contains-append_right (b ∷ []) (somes rest) a (contained k rest a e)
contained (suc k) (None ∷ rest) a e = contained k rest a e

outfile_short_only : (f : Facts) → Only (IsOf f 0 (outfile_short f)) (outfile_short f)
outfile_short_only f =
    let P = IsOf f 0 (outfile_short f) in
    so P (is_rescue f.work) _ (so P (not f.domain_map) _ (of P (bytes_of f.outfile) _ (λ n.
    of P (finished_of f.map) _ (λ e. of P (length_of f.infile) _ (λ l. so P (nat_lt f.input_position e) _ (
    so P (nat_le e l) _ (so P (within (e - f.input_position) f.size) _ (
    so P (nat_lt n (f.output_position + (e - f.input_position))) _ (
    one P (OutfileShort n e) (refl, refl))))))))))

map_past_infile_only : (f : Facts) → Only (IsOf f 1 (map_past_infile f)) (map_past_infile f)
map_past_infile_only f =
    let P = IsOf f 1 (map_past_infile f) in
    so P (asks_infile f.work) _ (of P (length_of f.infile) _ (λ n. of P (end_of f.map) _ (λ e.
    so P (nat_lt 0 n) _ (so P (nat_lt n e) _ (one P (MapPastInfile e n) (refl, refl))))))

empty_infile_only : (f : Facts) → Only (IsOf f 2 (empty_infile f)) (empty_infile f)
empty_infile_only f =
    let P = IsOf f 2 (empty_infile f) in
    so P (asks_infile f.work) _ (of P (length_of f.infile) _ (λ n. so P (nat_eq n 0) _ (
    one P EmptyInfile (refl, refl))))

begins_past_infile_only : (f : Facts) → Only (IsOf f 3 (begins_past_infile f)) (begins_past_infile f)
begins_past_infile_only f =
    let P = IsOf f 3 (begins_past_infile f) in
    so P (asks_infile f.work) _ (of P (length_of f.infile) _ (λ n. so P (nat_lt 0 n) _ (
    so P (nat_le n f.input_position) _ (one P (BeginsPastInfile n) (refl, refl)))))

nothing_asked_only : (f : Facts) → Only (IsOf f 4 (nothing_asked f)) (nothing_asked f)
nothing_asked_only f =
    let P = IsOf f 4 (nothing_asked f) in
    so P (saves f.work) _ (of P f.size _ (λ n. so P (nat_eq n 0) _ (one P NothingAsked (refl, refl))))

nothing_listed_only : (f : Facts) → Only (IsOf f 5 (nothing_listed f)) (nothing_listed f)
nothing_listed_only f =
    let P = IsOf f 5 (nothing_listed f) in
    so P (asks_infile f.work) _ (so P f.complete_only _ (so P (lists_nothing f.map) _ (
    one P NothingListed (refl, refl))))

new_mapfile_only : (f : Facts) → Only (IsOf f 6 (new_mapfile f)) (new_mapfile f)
new_mapfile_only f =
    let P = IsOf f 6 (new_mapfile f) in
    so P (is_rescue f.work) _ (so P (is_new f.map) _ (of P (bytes_of f.outfile) _ (λ n. so P (nat_lt f.output_position n) _ (
    one P (NewMapfile n) (refl, refl)))))

linked_mapfile_only : (f : Facts) → Only (IsOf f 7 (linked_mapfile f)) (linked_mapfile f)
linked_mapfile_only f =
    let P = IsOf f 7 (linked_mapfile f) in
    so P (saves f.work) _ (so P f.map_is_link _ (one P LinkedMapfile (refl, refl)))

unsafe_outfile_only : (f : Facts) → Only (IsOf f 8 (unsafe_outfile f)) (unsafe_outfile f)
unsafe_outfile_only f =
    let P = IsOf f 8 (unsafe_outfile f) in
    so P (writes_outfile f.work) _ (stored P f.outfile_place.storage _ (λ kind.
    so P (may_forget kind || is_none f.map_place.storage) _ (one P (UnsafeOutfile kind) (refl, refl))))

unsafe_mapfile_only : (f : Facts) → Only (IsOf f 9 (unsafe_mapfile f)) (unsafe_mapfile f)
unsafe_mapfile_only f =
    let P = IsOf f 9 (unsafe_mapfile f) in
    so P (saves f.work) _ (stored P f.map_place.storage _ (λ kind. one P (UnsafeMapfile kind) (refl, refl)))

new_outfile_only : (f : Facts) → Only (IsOf f 10 (new_outfile f)) (new_outfile f)
new_outfile_only f =
    let P = IsOf f 10 (new_outfile f) in
    so P (is_fill f.work) _ (so P (is_absent f.outfile) _ (one P NewOutfile (refl, refl)))

nothing_to_fill_only : (f : Facts) → Only (IsOf f 11 (nothing_to_fill f)) (nothing_to_fill f)
nothing_to_fill_only f =
    let P = IsOf f 11 (nothing_to_fill f) in
    so P (is_fill f.work) _ (so P (lists_nothing f.map) _ (one P NothingToFill (refl, refl)))

long_pattern_only : (f : Facts) → Only (IsOf f 12 (long_pattern f)) (long_pattern f)
long_pattern_only f =
    let P = IsOf f 12 (long_pattern f) in
    so P (is_fill f.work) _ (of P (length_of f.infile) _ (λ n. so P (nat_lt f.cluster n) _ (
    one P (LongPattern n f.cluster) (refl, refl))))

other_sector_only : (f : Facts) → Only (IsOf f 13 (other_sector f)) (other_sector f)
other_sector_only f =
    let P = IsOf f 13 (other_sector f) in
    so P (is_rescue f.work) _ (of P (sector_of f.infile) _ (λ n. so P (nat_lt 0 n) _ (
    so P (nat_lt 0 (f.sector % n)) _ (one P (OtherSector n f.sector) (refl, refl)))))

mounted_infile_only : (f : Facts) → Only (IsOf f 14 (mounted_infile f)) (mounted_infile f)
mounted_infile_only f =
    let P = IsOf f 14 (mounted_infile f) in
    so P (reads_infile f.work) _ (mounted P f.infile_mounting _ (λ kind.
    so P (is_writable kind || may_be_held f) _ (one P (MountedInfile kind) (refl, refl))))

outfile_on_disk_only : (f : Facts) → Only (IsOf f 15 (outfile_on_disk f)) (outfile_on_disk f)
outfile_on_disk_only f =
    let P = IsOf f 15 (outfile_on_disk f) in
    so P (is_rescue f.work) _ (so P f.outfile_place.on_infile_disk _ (one P OutfileOnDisk (refl, refl)))

mapfile_on_disk_only : (f : Facts) → Only (IsOf f 16 (mapfile_on_disk f)) (mapfile_on_disk f)
mapfile_on_disk_only f =
    let P = IsOf f 16 (mapfile_on_disk f) in
    so P (asks_infile f.work) _ (so P f.map_place.on_infile_disk _ (one P MapfileOnDisk (refl, refl)))

long_plan_only : (f : Facts) → Only (IsOf f 17 (long_plan f)) (long_plan f)
long_plan_only f =
    let P = IsOf f 17 (long_plan f) in
    so P (is_plan f.work) _ (so P f.scrapes _ (so P (nat_lt 0 f.sector) _ (of P (length_of f.infile) _ (λ n.
    of P (end_of f.map) _ (λ e. so P (nat_le 10_000_000 (sectors_past f n e)) _ (
    one P (LongPlan e (sectors_past f n e)) (refl, refl)))))))

nothing_to_compare_only : (f : Facts) → Only (IsOf f 18 (nothing_to_compare f)) (nothing_to_compare f)
nothing_to_compare_only f =
    let P = IsOf f 18 (nothing_to_compare f) in
    so P (is_comparison f.work) _ (so P (finishes_nothing f.input_position f.map) _ (
    one P NothingToCompare (refl, refl)))

late_mapfile_only : (f : Facts) → Only (IsOf f 19 (late_mapfile f)) (late_mapfile f)
late_mapfile_only f =
    let P = IsOf f 19 (late_mapfile f) in
    so P (is_rescue f.work) _ (so P (is_new f.map) _ (so P (not f.complete_only) _ (so P (not f.domain_map) _ (
    of P (length_of f.infile) _ (λ n. so P (nat_le 1_073_741_824 (asked_end f n - f.input_position)) _ (
    one P (LateMapfile f.stop_is_told) (refl, refl)))))))

empty_domain_only : (f : Facts) → Only (IsOf f 20 (empty_domain f)) (empty_domain f)
empty_domain_only f =
    let P = IsOf f 20 (empty_domain f) in
    so P (asks_infile f.work) _ (so P (finishes_nothing f.input_position f.domain) _ (
    one P EmptyDomain (refl, refl)))

map_before_infile_only : (f : Facts) → Only (IsOf f 21 (map_before_infile f)) (map_before_infile f)
map_before_infile_only f =
    let P = IsOf f 21 (map_before_infile f) in
    so P (is_rescue f.work) _ (so P (asks_for_all f) _ (of P (length_of f.infile) _ (λ n.
    of P (end_of f.map) _ (λ e. so P (nat_lt e n) _ (one P (MapBeforeInfile e n) (refl, refl))))))

no_length_only : (f : Facts) → Only (IsOf f 22 (no_length f)) (no_length f)
no_length_only f =
    let P = IsOf f 22 (no_length f) in
    so P (reads_infile f.work) _ (so P (is_character_device f.infile) _ (one P NoLength (refl, refl)))

are_kinds : (f : Facts) → AreKinds f 0 (kinds f)
are_kinds f = (outfile_short_only f, (map_past_infile_only f, (empty_infile_only f, (begins_past_infile_only f, (nothing_asked_only f, (nothing_listed_only f, (new_mapfile_only f, (linked_mapfile_only f, (unsafe_outfile_only f, (unsafe_mapfile_only f, (new_outfile_only f, (nothing_to_fill_only f, (long_pattern_only f, (other_sector_only f, (mounted_infile_only f, (outfile_on_disk_only f, (mapfile_on_disk_only f, (long_plan_only f, (nothing_to_compare_only f, (late_mapfile_only f, (empty_domain_only f, (map_before_infile_only f, (no_length_only f, tt)))))))))))))))))))))))

each_said : (f : Facts) (a : Advice) → IsDue f a → Contains (somes (kinds f)) a
each_said f (OutfileShort n e) h = contained 0 (kinds f) (OutfileShort n e) h
each_said f (MapPastInfile e n) h = contained 1 (kinds f) (MapPastInfile e n) h
each_said f EmptyInfile h = contained 2 (kinds f) EmptyInfile h
each_said f (BeginsPastInfile n) h = contained 3 (kinds f) (BeginsPastInfile n) h
each_said f NothingAsked h = contained 4 (kinds f) NothingAsked h
each_said f NothingListed h = contained 5 (kinds f) NothingListed h
each_said f (NewMapfile n) h = contained 6 (kinds f) (NewMapfile n) h
each_said f LinkedMapfile h = contained 7 (kinds f) LinkedMapfile h
each_said f (UnsafeOutfile s) h = contained 8 (kinds f) (UnsafeOutfile s) h
each_said f (UnsafeMapfile s) h = contained 9 (kinds f) (UnsafeMapfile s) h
each_said f NewOutfile h = contained 10 (kinds f) NewOutfile h
each_said f NothingToFill h = contained 11 (kinds f) NothingToFill h
each_said f (LongPattern n c) h = contained 12 (kinds f) (LongPattern n c) h
each_said f (OtherSector n b) h = contained 13 (kinds f) (OtherSector n b) h
each_said f (MountedInfile m) h = contained 14 (kinds f) (MountedInfile m) h
each_said f OutfileOnDisk h = contained 15 (kinds f) OutfileOnDisk h
each_said f MapfileOnDisk h = contained 16 (kinds f) MapfileOnDisk h
each_said f (LongPlan e n) h = contained 17 (kinds f) (LongPlan e n) h
each_said f NothingToCompare h = contained 18 (kinds f) NothingToCompare h
each_said f (LateMapfile told) h = contained 19 (kinds f) (LateMapfile told) h
each_said f EmptyDomain h = contained 20 (kinds f) EmptyDomain h
each_said f (MapBeforeInfile e n) h = contained 21 (kinds f) (MapBeforeInfile e n) h
each_said f NoLength h = contained 22 (kinds f) NoLength h

-- all kinds, each as it is due
pub is_advice : (f : Facts) (said : List Advice) → said ≡ somes (kinds f) → IsAdvice f said
is_advice f said e = subst (λ s. IsAdvice f s) (sym e) (record {
  due = all_due f 0 (kinds f) (are_kinds f);
  whole = each_said f;
  order = ascends f 0 0 (kinds f) (are_kinds f) (omega arith);
})
