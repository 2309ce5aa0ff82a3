-- What a stop of the small rescue finds.
use Rattle.std.proofs.Common.{◌≡◌, ◌≢◌, ℕ, zero, suc, ◌+◌, ◌^◌, ◌<◌, ◌≤◌, true, false, List, [], ◌∷◌, ◌++◌, length, length-append, sum, take, map, replicate, All, Option, Some, None, refl, sym, ap, ◌∙◌, subst, arith, append_assoc, append-nil}
use Rattle.std.specs.List.{slice_get}
use Rattle.std.proofs.lemmas.List.{length-map, map-append}
use Rattle.std.proofs.lemmas.List.Elements.{All-nil, All-cons}
use Rattle.std.proofs.lemmas.Option.{same_Some}
use Rattle.block_list.specs.declared.status.Status.{Status}
use Rattle.block_list.specs.declared.status.Status.TheVariants.{NonTried, BadSector, Finished}
use Rattle.mapfile_text.specs.declared.state.Current.TheVariants.{Copying}
use Rattle.mapfile_text.specs.declared.state.MapState.{MapState}
use Rattle.mapfile_text.specs.MapText.{text_limit}
use Rattle.faulty_source.specs.Journal.{Reading}
use Rattle.crash_site.specs.declared.site.MapRead.TheVariants.{Absent}
use Rattle.crash_site.specs.Files.{File}
use Rattle.crash_site.specs.Calls.{Call, Entry, Done, image_write, image_sync, draft_begin, draft_sync, draft_publish, map_settle}
use Rattle.mapfile_save.specs.Loading.{IsReadSize, load_reads}
use Rattle.mapfile_save.specs.Saving.{fill_calls, save_calls}
use Rattle.mapfile_save.proofs.NameLemmas.{apart_draft}
use Rattle.rescue_rules.specs.declared.stop.RunEnd.TheVariants.{Done as Ended}
use Rattle.rescue_rules.specs.Setting.{Setting, IsSensible}
use Rattle.rescue_rules.specs.Laws.{AreThreeNames, AreTimes}
use Rattle.rescue_rules.specs.Machine.{Machine}
use Rattle.rescue_rules.specs.Step.{Event, save_interval}
use Rattle.rescue_rules.specs.Moves.{state_after, move_of}
use Rattle.rescue_rules.specs.Events.{began_at, events_of, reads_of}
use Rattle.rescue_rules.specs.Given.{given}
use Rattle.rescue_rules.specs.RunCalls.{move_calls, run_calls, end_calls}
use Rattle.rescue_rules.specs.Snapshots.{Snapshot, text_of}
use Rattle.rescue_rules.specs.Start.{Stands}
use Rattle.rescue_rules.specs.Stops.{has_barrier, is_settle, is_write, returned, LeftBy}
use Rattle.rescue_rules.specs.StopsBy.{is_publish, published, IsSave, saves_of, RescueStopsBy}
use Rattle.rescue_rules.specs.Work.{Runs, IsLoadOf, IsSaved, GoesOn, InRun, Goes, AfterMaps, is_map_read}
use Rattle.rescue_rules.proofs.StopsLemmas.{rescue_stops_by}
use Rattle.rescue_safety.specs.Safe.{reads_until, by_then}
use Rattle.rescue_safety.proofs.BegunLemmas.{writes_in, count_both, save_published, save_unwritten}
use Rattle.rescue_safety.proofs.SettleLemmas.{settled, save_settled}
use Rattle.saved_laws.specs.Examples.{five, five_start, read_at, old_reads, late_read, last_reads, five_reads, opening, five_gain, five_run, two_writes, third, StopFindsWhatIsOld, StopKeepsWhatIsOld}
use Rattle.saved_laws.specs.GoesLaws.{GoesSafely, AreOld}
use Rattle.saved_laws.proofs.ExampleLemmas.{saves_what_is_old}
use Rattle.saved_laws.proofs.FailedLemmas.{has_by, calls_by}
use Rattle.saved_laws.proofs.LossBounded.{loss_in}

-- ---- it goes as a rescue does

abbrev start_map : List Status
start_map = replicate 10 NonTried

abbrev run_part : List Entry
run_part = map Done (run_calls five five_start five_reads ++ end_calls five five_start five_reads)

nothing_taken : (n : ℕ) → sum [] ≤ n
nothing_taken n = let none : sum [] ≡ 0 = refl in omega (arith, none)

loads : IsLoadOf five (λ name. None) (load_reads five.names.map [] (Some Absent))
loads = record {
  all = λ on. record {
    begins = record {
      given = [];
      answer = Some Absent;
      pieces = All-nil IsReadSize;
      within = nothing_taken 0;
      limited = nothing_taken text_limit;
      calls_are = refl;
    };
    ends = refl;
  };
  none = λ off. let e : true ≡ false = off in absurd (cc);
}

stands_first : Stands None 10 start_map None
stands_first = record { stands = record { map_is = refl; state_is = refl } }

runs : Runs five start_map None (record five_gain { calls = run_part }) Ended
runs = record {
  times = refl;
  run = saves_what_is_old.run;
  ends = IsSaved None refl refl refl;
}

goes_on : GoesOn five (λ name. None) (record five_gain { calls = five_gain.calls })
goes_on = InRun (load_reads five.names.map [] (Some Absent)) start_map None Ended run_part loads stands_first refl runs

goes_five : Goes five (λ name. None) five_gain
goes_five = AfterMaps [] five_gain.calls (All-nil (λ (c : Call). is_map_read c ≡ true)) refl goes_on

sensible : IsSensible five
sensible = record {
  sector = (let some : 0 < 2 = omega arith in some);
  sectors = 1;
  some = omega arith;
  cluster = refl;
  from = λ x is. let from : 0 ≤ x = omega arith in from;
  retries = (let few : 0 < 2 ^ 32 = omega arith in few);
}

abbrev first_of : List ℕ → ℕ
first_of [] = 0
first_of (n ∷ ns) = n

apart_map : five.outfile ≢ five.names.map
apart_map is = let same : 111 ≡ 109 = ap first_of is in absurd (let no : ⊥ = omega (arith, same) in no)

apart_own : five.outfile ≢ five.names.draft
apart_own is = let same : 111 ≡ 109 = ap first_of is in absurd (let no : ⊥ = omega (arith, same) in no)

three_names : AreThreeNames five
three_names = record { map = apart_map; draft = apart_own; apart = apart_draft (109 ∷ []); own = refl }

abbrev IsTime : ℕ → Type 0
IsTime t = t < 2 ^ 64

are_times : AreTimes five_gain.times
are_times =
    All-cons IsTime 0 (0 ∷ 0 ∷ 0 ∷ 5 ∷ 5 ∷ 40000 ∷ 40000 ∷ 50 ∷ 50 ∷ 100 ∷ []) (omega arith)
    (All-cons IsTime 0 (0 ∷ 0 ∷ 5 ∷ 5 ∷ 40000 ∷ 40000 ∷ 50 ∷ 50 ∷ 100 ∷ []) (omega arith)
    (All-cons IsTime 0 (0 ∷ 5 ∷ 5 ∷ 40000 ∷ 40000 ∷ 50 ∷ 50 ∷ 100 ∷ []) (omega arith)
    (All-cons IsTime 0 (5 ∷ 5 ∷ 40000 ∷ 40000 ∷ 50 ∷ 50 ∷ 100 ∷ []) (omega arith)
    (All-cons IsTime 5 (5 ∷ 40000 ∷ 40000 ∷ 50 ∷ 50 ∷ 100 ∷ []) (omega arith)
    (All-cons IsTime 5 (40000 ∷ 40000 ∷ 50 ∷ 50 ∷ 100 ∷ []) (omega arith)
    (All-cons IsTime 40000 (40000 ∷ 50 ∷ 50 ∷ 100 ∷ []) (omega arith)
    (All-cons IsTime 40000 (50 ∷ 50 ∷ 100 ∷ []) (omega arith)
    (All-cons IsTime 50 (50 ∷ 100 ∷ []) (omega arith)
    (All-cons IsTime 50 (100 ∷ []) (omega arith)
    (All-cons IsTime 100 [] (omega arith)
    (All-nil IsTime)))))))))))

stops : RescueStopsBy five_run.past five five_gain
stops = rescue_stops_by five_run.past five five_gain sensible refl three_names
    (let small : 10 < 2 ^ 63 = omega arith in small) are_times goes_five

-- ---- its calls up to the third write

-- the first save
abbrev shot : Snapshot
shot = record {
  map = Finished ∷ Finished ∷ BadSector ∷ BadSector ∷ Finished ∷ Finished ∷ NonTried ∷ NonTried ∷ NonTried ∷ NonTried ∷ [];
  shown = record { pos = 6; current = Copying; pass = 1 };
  began = 0;
  now = 40000;
}

abbrev save : List Call
save = save_calls five.names (text_of [] shot)

abbrev three : List Event
three = old_reads ++ late_read ∷ []

abbrev write_3 : Call
write_3 = image_write 8 (7 ∷ 7 ∷ [])

calls_both : (s : Setting) (m : Machine) (es fs : List Event)
    → run_calls s m (es ++ fs) ≡ run_calls s m es ++ run_calls s (state_after s m es) fs
calls_both s m [] fs = refl
calls_both s m (e ∷ es) fs =
    ap (λ (l : List Call). move_calls s (move_of s m e) ++ l) (calls_both s (move_of s m e).after es fs)
    ∙ sym (append_assoc (move_calls s (move_of s m e)) (run_calls s (move_of s m e).after es)
    (run_calls s (state_after s (move_of s m e).after es) fs))

three_are : run_calls five five_start three ≡ image_write 0 (7 ∷ 7 ∷ []) ∷ image_write 4 (7 ∷ 7 ∷ []) ∷ (save ++ [])
three_are = refl

last_are : run_calls five (state_after five five_start three) last_reads ≡ write_3 ∷ []
last_are = refl

abbrev rest : List Entry
rest = map Done (end_calls five five_start five_reads)

-- they are two writes, a save, and then the third write
abbrev before : List Entry
before = two_writes ++ map Done save

run_is : run_calls five five_start five_reads
    ≡ (image_write 0 (7 ∷ 7 ∷ []) ∷ image_write 4 (7 ∷ 7 ∷ []) ∷ save) ++ write_3 ∷ []
run_is =
    calls_both five five_start three last_reads
    ∙ ap (λ (l : List Call). run_calls five five_start three ++ l) last_are
    ∙ ap (λ (l : List Call). l ++ write_3 ∷ []) three_are
    ∙ ap (λ (l : List Call). (image_write 0 (7 ∷ 7 ∷ []) ∷ image_write 4 (7 ∷ 7 ∷ []) ∷ l) ++ write_3 ∷ []) (append-nil save)

part_is : run_part
    ≡ (Done (image_write 0 (7 ∷ 7 ∷ [])) ∷ Done (image_write 4 (7 ∷ 7 ∷ [])) ∷ map Done save) ++ Done write_3 ∷ rest
part_is =
    let writes : List Call = image_write 0 (7 ∷ 7 ∷ []) ∷ image_write 4 (7 ∷ 7 ∷ []) ∷ save in
    let ends : List Call = end_calls five five_start five_reads in
    ap (λ (l : List Call). map Done (l ++ ends)) run_is
    ∙ ap (λ (l : List Call). map Done l) (append_assoc writes (write_3 ∷ []) ends)
    ∙ map-append Done writes (write_3 ∷ ends)

calls_are : five_gain.calls ≡ before ++ Done write_3 ∷ rest
calls_are =
    let two : List Entry = Done (image_write 0 (7 ∷ 7 ∷ [])) ∷ Done (image_write 4 (7 ∷ 7 ∷ [])) ∷ [] in
    ap (λ (l : List Entry). map Done opening ++ l) part_is
    ∙ sym (append_assoc (map Done opening) (two ++ map Done save) (Done write_3 ∷ rest))
    ∙ ap (λ (l : List Entry). l ++ Done write_3 ∷ rest) (sym (append_assoc (map Done opening) two (map Done save)))

third_is : third ≡ length before
third_is =
    let two : List Entry = Done (image_write 0 (7 ∷ 7 ∷ [])) ∷ Done (image_write 4 (7 ∷ 7 ∷ [])) ∷ [] in
    omega (
      arith,
      ap length three_are,
      ap length (append-nil save),
      length-append two_writes (map Done save),
      length-append (map Done opening) two,
      length-map opening Done,
      length-map save Done,
      (let some : length two ≡ 2 = refl in some),
    )

take_past : (a more : List Entry) (j k : ℕ) → k ≡ length a + j → take k (a ++ more) ≡ a ++ take j more
take_past [] more j k e = ap (λ (m : ℕ). take m more) (let e2 : k ≡ j = omega (arith, e) in e2)
take_past (x ∷ a) more j k e =
    let e2 : k ≡ suc (length a + j) = omega (arith, e) in
    ap (λ (m : ℕ). take m (x ∷ (a ++ more))) e2
    ∙ ap (λ (l : List Entry). x ∷ l) (take_past a more j (length a + j) refl)

take_third : take third five_gain.calls ≡ before
take_third =
    ap (λ (l : List Entry). take third l) calls_are
    ∙ take_past before (Done write_3 ∷ rest) 0 third (omega (arith, third_is)) ∙ append-nil before

take_more : take (third + 1) five_gain.calls ≡ before ++ Done write_3 ∷ []
take_more =
    ap (λ (l : List Entry). take (third + 1) l) calls_are
    ∙ take_past before (Done write_3 ∷ rest) 1 (third + 1) (omega (arith, third_is))

within : third ≤ length five_gain.calls
within =
    omega (arith, third_is, ap length calls_are ∙ length-append before (Done write_3 ∷ rest))

-- ---- what they count

save_returned : 1 ≤ returned (take third five_gain.calls)
save_returned =
    omega (
      arith,
      ap settled take_third ∙ count_both is_settle two_writes (map Done save),
      save_settled five.names (text_of [] shot),
      (let one : settled two_writes ≡ 1 = refl in one),
    )

one_published : published (take (third + 1) five_gain.calls) ≤ 1
one_published =
    omega (
      arith,
      ap published take_more ∙ count_both is_publish before (Done write_3 ∷ []),
      count_both is_publish two_writes (map Done save),
      save_published five.names (text_of [] shot),
      (let none : published two_writes ≡ 0 = refl in none),
      (let none : published (Done write_3 ∷ []) ≡ 0 = refl in none),
    )

three_writes : writes_in (take (third + 1) five_gain.calls) ≡ 3
three_writes =
    let es : List Entry = Done write_3 ∷ [] in
    omega (
      arith,
      ap writes_in take_more ∙ ap writes_in (append_assoc two_writes (map Done save) es)
          ∙ count_both is_write two_writes (map Done save ++ es),
      save_unwritten five sensible 0 five.names (text_of [] shot) es,
      (let two : writes_in two_writes ≡ 2 = refl in two),
      (let one : writes_in (Done write_3 ∷ []) ≡ 1 = refl in one),
    )

barrier : has_barrier (take third five_gain.calls) ≡ true
barrier = ap has_barrier take_third ∙ refl

-- ---- what is found

all_reads : (by_then five_run third).reads ≡ reads_of five_reads
all_reads = ap (λ (n : ℕ). reads_until five.sector n (reads_of five_reads)) three_writes

abbrev saves : List Snapshot
saves = saves_of five start_map None five_gain

first_save : slice_get saves 0 ≡ Some shot
first_save = refl

number_is : (number : ℕ) (found : Option File) (statuses : List Status) → 1 ≤ number → number ≤ 1
    → IsSave None start_map [] saves number found statuses → statuses ≡ shot.map
number_is zero found statuses low high is = absurd (let no : ⊥ = omega (arith, low) in no)
number_is (suc zero) found statuses low high is =
    is.2 ∙ ap (λ (p : Snapshot). p.map) (same_Some is.0 shot (sym is.1 ∙ first_save))
number_is (suc (suc n)) found statuses low high is = absurd (let no : ⊥ = omega (arith, high) in no)

-- the mapfile found stands for the map of the first save
record FoundMap (files : List ℕ → Option File) : Type 0 where
  shows : Option MapState
  stands : Stands (files five.names.map) 10 shot.map shows

found_map : (files : List ℕ → Option File) → LeftBy five_run.past five_run.calls third files → FoundMap files
found_map files left =
    let over = stops.past (record { k = third; files = files; within = within; left = left }) barrier in
    let kept = over.kept start_map None stands_first in
    let older : returned (take third five_gain.calls) ≤ kept.number = kept.no_older in
    let newer : kept.number ≤ published (take (third + 1) five_gain.calls) = kept.no_newer in
    let same : kept.statuses ≡ shot.map
    = number_is kept.number (files five.names.map) kept.statuses (omega (arith, save_returned, older))
    (omega (arith, one_published, newer)) kept.is_save in
    record {
      shows = kept.shows;
      stands = subst (λ (l : List Status). Stands (files five.names.map) 10 l kept.shows) same kept.stands;
    }

-- the save's calls between its first and its last
abbrev save_middle : List Entry
save_middle = Done (draft_begin five.names.draft) ∷ (map Done (fill_calls (text_of [] shot))
    ++ Done draft_sync ∷ Done (draft_publish five.names.map) ∷ [])

save_is : map Done save ≡ Done image_sync ∷ (save_middle ++ Done (map_settle five.names.map) ∷ [])
save_is =
    let fill : List Call = fill_calls (text_of [] shot) in
    let end : List Call = draft_sync ∷ draft_publish five.names.map ∷ map_settle five.names.map ∷ [] in
    ap (λ (l : List Entry). Done image_sync ∷ Done (draft_begin five.names.draft) ∷ l)
    (map-append Done fill end
    ∙ sym (append_assoc (map Done fill) (Done draft_sync ∷ Done (draft_publish five.names.map) ∷ [])
    (Done (map_settle five.names.map) ∷ [])))

two_begun : take (length two_writes + 1) five_gain.calls ≡ two_writes ++ Done image_sync ∷ []
two_begun =
    ap (λ (l : List Entry). take (length two_writes + 1) l)
    (calls_are ∙ append_assoc two_writes (map Done save) (Done write_3 ∷ rest))
    ∙ take_past two_writes (map Done save ++ Done write_3 ∷ rest) 1 (length two_writes + 1) refl

two_counted : writes_in (take (length two_writes + 1) five_gain.calls) ≡ 2
two_counted = ap writes_in two_begun ∙ (let two : writes_in (two_writes ++ Done image_sync ∷ []) ≡ 2 = refl in two)

abbrev IsOld : ℕ → Type 0
IsOld t = t + save_interval ≤ late_read.after

all_old : All IsOld (began_at five_gain.times ∷ map (λ e. e.after) old_reads)
all_old =
    All-cons IsOld 0 (0 ∷ 5 ∷ []) (omega arith)
    (All-cons IsOld 0 (5 ∷ []) (omega arith) (All-cons IsOld 5 [] (omega arith) (All-nil IsOld)))

pub stop_finds_what_is_old : StopFindsWhatIsOld
stop_finds_what_is_old = record {
  goes = goes_five;
  begun = ap (λ (rs : List Reading). events_of rs five_gain.times) all_reads;
  late = all_old;
  saving = save_middle;
  saved = take_third ∙ ap (λ (l : List Entry). two_writes ++ l) save_is;
  counted = ap (λ (n : ℕ). reads_until five.sector n (reads_of five_reads)) two_counted;
  finds = λ files left status x other.
      let found : FoundMap files = found_map files left in (
        has_by status (λ is. other (sym is)) (files five.names.map) 10 x shot.map found.shows found.stands,
        calls_by status (λ is. other (sym is)) (files five.names.map) 10 x shot.map found.shows found.stands,
      );
}

-- ---- it is a case of the bound

went_five : GoesSafely five_run.past five five_gain
went_five = record { sensible = sensible; named = refl; goes = goes_five; stops = stops }

are_old : AreOld five five_gain third old_reads
are_old = record {
  between = [];
  late = late_read;
  later = read_at 6 0 40000 50;
  more = read_at 8 2 50 100 ∷ [];
  begun = ap (λ (rs : List Reading). events_of rs five_gain.times) all_reads;
  enough = all_old;
}

first_gave : (x : ℕ) → x < 2 → given five.sector (reads_of old_reads) x ≡ Some 7
first_gave zero low = refl
first_gave (suc zero) low = refl
first_gave (suc (suc n)) low = absurd (let no : ⊥ = omega (arith, low) in no)

pub stop_keeps_what_is_old : StopKeepsWhatIsOld
stop_keeps_what_is_old = record {
  went = went_five;
  within = within;
  old = are_old;
  keeps = λ files left x low.
      let found = loss_in five_run.past five five_gain third files old_reads x went_five within left are_old in
      found.0 7 (first_gave x low);
}
