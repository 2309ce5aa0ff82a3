-- What a command did, by what came of the reads of its maps, and of the picture.
use Rattle.std.proofs.Common.{◌≡◌, ◌⊎◌, ℕ, ◌++◌, Bool, true, false, IsTrue, List, [], ◌∷◌, map, Option, Some, Ok, Err, refl, sym, ap, subst, ◌∙◌, inl, inr, append-nil, append_assoc, arith}
use Rattle.block_list.specs.Tiled.{Tiled, statuses_in}
use Rattle.mapfile_text.specs.declared.read.Mode.{Mode}
use Rattle.mapfile_text.specs.declared.read.Mode.TheVariants.{Tight}
use Rattle.crash_site.specs.Files.{File, file_named}
use Rattle.crash_site.specs.Calls.{Entry, Done as Returned}
use Rattle.crash_site.specs.SiteState.{SiteState, files_in}
use Rattle.crash_site.specs.SiteChanges.{Stays}
use Rattle.mapfile_resume.specs.Named.{map_mode}
use Rattle.rescue_console.specs.declared.console.Channel.TheVariants.{Out}
use Rattle.rescue_console.specs.ConsoleState.{ConsoleState, Puts, PutsPart}
use Rattle.mapfile_save.proofs.FillLemmas.{site_stays}
use Rattle.program_promise.specs.Work.{IsIdle, Take, WorkStep, Works}
use Rattle.program_promise.specs.Parts.{only_calls, WentThrough}
use Rattle.program_promise.proofs.FrontLemmas.{load_reads}
use Rattle.program_promise.proofs.PartLemmas.{stopped_more, through_then, idle}
use Rattle.program_promise.specs.World.{WorldState, handed}
use Rattle.program_promise.specs.Causes.{Changed, changes_of}
use Rattle.program_promise.specs.Promise.{DoneFor}
use Rattle.ddrescueshow_words.specs.Command.{Command}
use Rattle.program_promise.proofs.ReadLemmas.{AllReads, files_stand}
use Rattle.ddrescueshow_cli.specs.declared.ending.Which.{Which}
use Rattle.ddrescueshow_cli.specs.declared.ending.Which.TheVariants.{RunMap, DomainMap}
use Rattle.ddrescueshow_cli.specs.declared.ending.ShowEnding.{ShowEnding}
use Rattle.ddrescueshow_cli.specs.declared.ending.ShowEnding.TheVariants.{Done, TooManyCells, ConsoleFault, NoMemory}
use Rattle.ddrescueshow_cli.specs.Answers.{row_of}
use Rattle.ddrescueshow_cli.specs.Work.{AreMapsOf, Found, LeavesAs, Maps, PutsAll, found_in, is_too_large, map_rows, show_faults, text_of}
use Rattle.ddrescueshow_cli.specs.Ddrescueshow.{ShowWorked, show_program}
use Rattle.ddrescueshow_cli.specs.Steps.{ReadCause, ReadsMap, ReadsNamed}

stays_more : (s t u : SiteState) → Stays s t → Stays t u → Stays s u
stays_more s t u a b = record {
  keeps = record {
    tells = b.keeps.tells ∙ a.keeps.tells;
    start = λ tells. b.keeps.start (subst IsTrue (sym a.keeps.tells) tells) ∙ a.keeps.start tells;
    scheduled = b.keeps.scheduled ∙ a.keeps.scheduled;
    later = omega (arith, a.keeps.later, b.keeps.later);
  };
  image = b.image ∙ a.image;
  draft = b.draft ∙ a.draft;
}

-- nothing was done, since memory ran out first, or since the picture would be too large
pub starved_done : (terminal : Bool) (c : Command) (line : List ℕ) (w : WorldState)
    → DoneFor (show_program terminal) c line NoMemory w w
starved_done terminal c line w = record {
  outside = found_in c (files_in w.site);
  did = only_calls [];
  agrees = record { files = λ tells. refl; calls = λ tells. sym (append-nil w.site.calls) };
  work = inl (refl, idle);
  leaves = refl;
}

pub refused_worked : (terminal : Bool) (c : Command) (words : List (List ℕ)) (s : SiteState) (p : ConsoleState)
    → is_too_large c.options ≡ true → ShowWorked terminal c words TooManyCells (handed s p) (handed s p)
refused_worked terminal c words s p large = record {
  done = record {
    outside = found_in c (files_in s);
    did = only_calls [];
    agrees = record { files = λ tells. refl; calls = λ tells. sym (append-nil s.calls) };
    work = inr (inl ((large, refl), idle));
    leaves = refl;
  };
  cause = record { opens = refl; reads = refl; calls = refl; takes = refl; puts = refl };
  also = tt;
  keeps = site_stays s;
}

abbrev run_rows : Command → (file : Option File) → List (WorkStep ShowEnding)
run_rows c file = map_rows RunMap Tight (Some c.mapfile) file

abbrev domain_rows : Command → (file : Option File) → List (WorkStep ShowEnding)
domain_rows c file = map_rows DomainMap (map_mode c.options.loose) c.domain_map file

abbrev found_by : Option File → Option File → Found
found_by mapfile domain = record { mapfile = mapfile; domain = domain }

-- ---- what reads leave

reads_through : (which : Which) (mode : Mode) (name : List ℕ) (file : Option File) (calls : List Entry)
    → WentThrough (map_rows which mode (Some name) file) calls → AllReads calls
reads_through which mode name file calls t = record {
  maps = t.0;
  are = load_reads name file t.0 t.2.begins;
  all = t.3 ∙ ap (λ (r : List Entry). map Returned t.0 ++ r) t.4.1 ∙ append-nil (map Returned t.0);
}

-- ---- the work

module _ (terminal : Bool) (c : Command) (words : List (List ℕ)) (fits : is_too_large c.options ≡ false) where
  abbrev Did : (s s' : SiteState) (p p' : ConsoleState) → ShowEnding → Type 0
  Did s s' p p' e = ShowWorked terminal c words e (handed s p) (handed s' p')

  -- the rows that read the maps, and then take memory
  abbrev Reads : Found → ShowEnding → List Entry → Type 0
  Reads found e calls =
      Works show_faults (run_rows c found.mapfile ++ domain_rows c found.domain ++ Take ∷ []) PutsAll e (only_calls calls)

  worked : (s s' : SiteState) → Stays s s' → (p p' : ConsoleState) (e : ShowEnding) (found : Found) (calls : List Entry)
      → Reads found e calls → (IsTrue s.tells → found ≡ found_in c (files_in s))
      → (IsTrue s.tells → s'.calls ≡ s.calls ++ calls) → LeavesAs terminal c found e p p'
      → Changed (changes_of (row_of e).kind) (handed s p) (handed s' p') → (row_of e).also → Did s s' p p' e
  worked s s' stays p p' e found calls work own gained leaves cause also = record {
    done = record {
      outside = found;
      did = only_calls calls;
      agrees = record { files = own; calls = gained };
      work = inr (inr ((λ v large. let no : false ≡ true = sym fits ∙ large.0 in cc), work));
      leaves = leaves;
    };
    cause = cause;
    also = also;
    keeps = stays;
  }

  -- the read of the mapfile stopped
  pub first_stopped : (e : ShowEnding) (s s' : SiteState) (p : ConsoleState)
      → ReadsMap RunMap Tight c.mapfile (Err e) s s' → ReadCause e s s' → Stays s s' → Did s s' p p e
  first_stopped e s s' p r why stays =
      let domain : Option File = file_named c.domain_map (files_in s) in
      worked s s' stays p p e (found_by r.file domain) r.calls
      (stopped_more show_faults (run_rows c r.file) (domain_rows c domain ++ Take ∷ []) PutsAll e (only_calls r.calls) r.did)
      (λ tells. ap (λ (f : Option File). found_by f domain) (r.is_own tells)) r.gained (why.unput terminal c _ p) (why.cause p)
      why.also

  module _ (s t u : SiteState) (tiles : Tiled) (first : ReadsMap RunMap Tight c.mapfile (Ok tiles) s t) (kept : Stays s t)
      (stays : Stays t u) (kept_first : t.faults ≡ s.faults) where
    still : IsTrue s.tells → IsTrue t.tells
    still tells = subst IsTrue (sym kept.keeps.tells) tells

    -- what the second read finds are the files that were there at first
    both_own : (file : Option File) → (IsTrue t.tells → file ≡ file_named c.domain_map (files_in t)) → IsTrue s.tells
        → found_by first.file file ≡ found_in c (files_in s)
    both_own file own tells =
        ap (λ (f : Option File). found_by f file) (first.is_own tells)
        ∙ ap (λ (f : Option File). found_by (files_in s c.mapfile) f)
        (own (still tells)
        ∙ ap (file_named c.domain_map)
        (files_stand first.calls s t (reads_through RunMap Tight c.mapfile first.file first.calls first.did.1)
        (kept.keeps.start tells) (first.gained tells)))

    grew_both : (calls : List Entry) → (IsTrue t.tells → u.calls ≡ t.calls ++ calls) → IsTrue s.tells
        → u.calls ≡ s.calls ++ (first.calls ++ calls)
    grew_both calls gained tells =
        gained (still tells) ∙ ap (λ (r : List Entry). r ++ calls) (first.gained tells)
        ∙ append_assoc s.calls first.calls calls

    -- the read of the domain map stopped
    pub second_stopped : (e : ShowEnding) (p : ConsoleState)
        → ReadsNamed DomainMap (map_mode c.options.loose) c.domain_map (Err e) t u → ReadCause e t u → Did s u p p e
    second_stopped e p r why =
        let cause : Changed (changes_of (row_of e).kind) (handed t p) (handed u p) = why.cause p in
        worked s u (stays_more s t u kept stays) p p e (found_by first.file r.file) (first.calls ++ r.calls)
        (through_then show_faults (run_rows c first.file) (domain_rows c r.file ++ Take ∷ []) PutsAll e first.calls
        (only_calls r.calls) first.did.1
        (stopped_more show_faults (domain_rows c r.file) (Take ∷ []) PutsAll e (only_calls r.calls) r.did))
        (both_own r.file r.is_own) (grew_both r.calls r.gained) (why.unput terminal c _ p)
        (record {
          opens = cause.opens;
          reads = cause.reads;
          calls = cause.calls ∙ ap (changes_of (row_of e).kind).calls kept_first;
          takes = cause.takes;
          puts = cause.puts;
        })
        why.also

    module _ (domain : Option Tiled) (second : ReadsNamed DomainMap (map_mode c.options.loose) c.domain_map (Ok domain) t u)
        (kept_second : u.faults ≡ t.faults) where
      abbrev pub found : Found
      found = found_by first.file second.file

      abbrev pub maps : Maps
      maps = record { statuses = tiles.statuses; domain = statuses_in domain }

      are : AreMapsOf c found maps
      are = record { mapfile = first.did.0; domain = second.did.0 }

      ended : (e : ShowEnding) (p p' : ConsoleState) → ((e ≡ NoMemory) × IsIdle (only_calls [])) ⊎ PutsAll e (only_calls [])
          → LeavesAs terminal c found e p p' → Changed (changes_of (row_of e).kind) (handed s p) (handed u p')
          → (row_of e).also → Did s u p p' e
      ended e p p' ends leaves cause also =
          let more : Works show_faults (domain_rows c second.file ++ Take ∷ []) PutsAll e
          (only_calls (second.calls ++ []))
          = through_then show_faults (domain_rows c second.file) (Take ∷ []) PutsAll e second.calls (only_calls [])
          second.did.1 ends in
          worked s u (stays_more s t u kept stays) p p' e found (first.calls ++ second.calls)
          (through_then show_faults (run_rows c first.file) (domain_rows c second.file ++ Take ∷ []) PutsAll e first.calls
          (only_calls second.calls) first.did.1
          (subst (λ (cs : List Entry). Works show_faults (domain_rows c second.file ++ Take ∷ []) PutsAll e (only_calls cs))
          (append-nil second.calls) more))
          (both_own second.file second.is_own) (grew_both second.calls second.gained) leaves cause also

      -- memory ran out for the picture
      pub starved_worked : (p : ConsoleState) → Did s u p p NoMemory
      starved_worked p =
          ended NoMemory p p (inl (refl, idle)) refl
          (record { opens = refl; reads = refl; calls = kept_second ∙ kept_first; takes = refl; puts = refl }) tt

      -- the picture was put
      pub put_worked : (text : List ℕ) (p p' : ConsoleState) → text ≡ text_of terminal c maps → Puts Out text p p'
          → Did s u p p' Done
      put_worked text p p' is puts =
          ended Done p p' (inr (inl refl, idle))
          (record { maps = maps; are = are; puts = subst (λ (x : List ℕ). Puts Out x p p') is puts })
          (record { opens = refl; reads = refl; calls = kept_second ∙ kept_first; takes = refl; puts = puts.kept }) tt

      -- or a beginning of it
      pub unput_worked : (text : List ℕ) (p p' : ConsoleState) → text ≡ text_of terminal c maps → PutsPart Out text p p'
          → Did s u p p' ConsoleFault
      unput_worked text p p' is part_of =
          ended ConsoleFault p p' (inr (inr refl, idle))
          (record { maps = maps; are = are; puts = subst (λ (x : List ℕ). PutsPart Out x p p') is part_of })
          (record { opens = refl; reads = refl; calls = kept_second ∙ kept_first; takes = refl; puts = part_of.rose }) tt
