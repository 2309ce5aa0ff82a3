-- What a command did, by how far it came.
use Rattle.std.proofs.Common.{◌≡◌, ℕ, ◌++◌, IsTrue, List, [], ◌∷◌, length, All, Ok, Err, refl, sym, ap, ◌∙◌, inl, inr, subst, append-nil}
use Rattle.std.proofs.lemmas.List.Elements.{All-nil}
use Rattle.fault_count.specs.Counts.{raised}
use Rattle.mapfile_text.specs.HeadingLines.{HeadingLines}
use Rattle.mapfile_text.specs.declared.heading.Program.TheVariants.{Ddrescuelog}
use Rattle.mapfile_text.specs.Printed.{printed}
use Rattle.faulty_source.specs.Journal.{Reading, IsFrom}
use Rattle.faulty_source.specs.SourceState.{SourceState}
use Rattle.faulty_source.specs.SourceChanges.{AnswersOpen, OpensBySchedule, Stays}
use Rattle.faulty_source.proofs.Keeping.{keeps_more, keeps_self}
use Rattle.rescue_console.specs.declared.console.Channel.TheVariants.{Out}
use Rattle.rescue_console.specs.ConsoleState.{ConsoleState, Puts, PutsPart}
use Rattle.program_promise.specs.Work.{Deeds, Opened, Unopened}
use Rattle.program_promise.specs.World.{WorldState}
use Rattle.program_promise.specs.Printing.{PutsText}
use Rattle.program_promise.specs.Program.{line_by}
use Rattle.program_promise.specs.Promise.{DoneFor}
use Rattle.partition_domain.specs.declared.table.Partition.{Partition}
use Rattle.partition_domain.specs.declared.stop.SearchStop.{SearchStop}
use Rattle.partition_domain.specs.declared.stop.SearchStop.TheVariants.{SourceLost as SearchLost, Refused as SearchRefused}
use Rattle.partition_domain.specs.DomainMap.{domain_map, shown_state}
use Rattle.partition_domain.specs.Reads.{AreNext, HasPart, losses_after, records_of}
use Rattle.partition_domain.specs.Steps.{Searched}
use Rattle.partition_domain.proofs.ReadLemmas.{few_reads}
use Rattle.ddrescuepart_words.specs.Command.{Command}
use Rattle.program_promise.proofs.PartLemmas.{no_deeds}
use Rattle.ddrescuepart_cli.specs.declared.ending.PartEnding.{PartEnding}
use Rattle.ddrescuepart_cli.specs.declared.ending.PartEnding.TheVariants.{Done, SourceFault, ConsoleFault, NoMemory}
use Rattle.ddrescuepart_cli.specs.Answers.{AnswersBy, ending_of, row_of}
use Rattle.ddrescuepart_cli.specs.Work.{Agrees, text_by, text_of}
use Rattle.ddrescuepart_cli.specs.Ddrescuepart.{PartWorked, handed, part_program}

-- ---- nothing was opened

-- memory ran out first
pub starved_done : (c : Command) (line : List ℕ) (w : WorldState) → DoneFor part_program c line NoMemory w w
starved_done c line w = record {
  outside = length w.source.bytes;
  did = no_deeds;
  agrees = record {
    opens = refl;
    length_is = λ tells. refl;
    reads = λ tells. sym (append-nil w.source.journal);
    right = λ tells. All-nil (IsFrom w.source.bytes);
  };
  work = inl (refl, record { opens = refl; gain = record { calls = refl; reads = refl; times = refl } });
  leaves = refl;
}

pub starved_worked : (c : Command) (words : List (List ℕ)) (s : SourceState) (p : ConsoleState)
    → PartWorked c words NoMemory (handed s p) (handed s p)
starved_worked c words s p = record {
  done = starved_done c (line_by part_program words) (handed s p);
  cause = record { opens = refl; reads = refl; calls = refl; takes = refl; puts = refl };
  also = tt;
  keeps = keeps_self s;
}

-- the input couldn't be opened
pub unopened_worked : {E : Type 0} (c : Command) (words : List (List ℕ)) (e : E) (s s' : SourceState) (p : ConsoleState)
    → AnswersOpen c.infile (Err e) s s' → (IsTrue s.is_scheduled → OpensBySchedule c.infile (Err e) s s')
    → PartWorked c words SourceFault (handed s p) (handed s' p)
unopened_worked c words e s s' p a schedule = record {
  done = record {
    outside = length s.bytes;
    did = record { opens = Unopened c.infile ∷ []; gain = record { calls = []; reads = []; times = [] } };
    agrees = record {
      opens = (a.opens, a.input, λ scheduled. (schedule scheduled).answers.0 refl);
      length_is = λ tells. refl;
      reads = λ tells. a.journal tells ∙ sym (append-nil s.journal);
      right = λ tells. All-nil (IsFrom s.bytes);
    };
    work = inr (inl (refl, refl, record { calls = refl; reads = refl; times = refl }));
    leaves = refl;
  };
  cause = record { opens = a.rose; reads = a.losses; calls = refl; takes = refl; puts = refl };
  also = tt;
  keeps = a.keeps;
}

-- ---- records were read

-- the open of the input, and these reads
abbrev read_deeds : Command → List Reading → Deeds
read_deeds c reads = record { opens = Opened c.infile ∷ []; gain = record { calls = []; reads = reads; times = [] } }

module _ {E : Type 0} (c : Command) (length_ : ℕ) (s t u : SourceState)
    (a : AnswersOpen {E = E} c.infile (Ok length_) s t) (stays : Stays t u) where
  read_agrees : (reads : List Reading) → (IsTrue t.tells → u.journal ≡ t.journal ++ reads)
      → (IsTrue t.tells → All (IsFrom t.bytes) reads) → Agrees length_ (read_deeds c reads) s u
  read_agrees reads told right =
      let tells_on : IsTrue s.tells → IsTrue t.tells = λ tells. subst IsTrue (sym a.keeps.tells) tells in
      record {
        opens = (stays.opens ∙ a.opens, λ tells. stays.name (tells_on tells) ∙ a.named tells);
        length_is = λ tells. a.all tells;
        reads = λ tells. told (tells_on tells) ∙ ap (λ (j : List Reading). j ++ reads) (a.journal tells);
        right = λ tells. subst (λ (b : List ℕ). All (IsFrom b) reads) (a.keeps.bytes tells) (right (tells_on tells));
      }

  module _ (words : List (List ℕ)) (p q : ConsoleState) where
    abbrev Did : PartEnding → Type 0
    Did e = PartWorked c words e (handed s p) (handed u q)

    abbrev line : List ℕ
    line = line_by part_program words

    -- the work, by the answer that the reads bring and by what is put
    read_done : (e : PartEnding) (reads : List Reading) → (IsTrue t.tells → u.journal ≡ t.journal ++ reads)
        → (IsTrue t.tells → All (IsFrom t.bytes) reads) → AreNext c.partition [] reads
        → AnswersBy e c.partition (records_of reads)
        → PutsText (row_of e).kind (text_of c line length_ (read_deeds c reads)) p q
        → DoneFor part_program c line e (handed s p) (handed u q)
    read_done e reads told right next answer puts = record {
      outside = length_;
      did = read_deeds c reads;
      agrees = read_agrees reads told right;
      work = inr (inr (
        [],
        refl,
        record {
          opens = refl;
          calls = refl;
          times = refl;
          next = next;
          few = few_reads c.partition reads next;
          answer = answer;
        },
      ));
      leaves = puts;
    }

    -- the search found the partition
    module _ (heading : HeadingLines) (part : Partition)
        (heads : heading ≡ record { program = Ddrescuelog; line = line; start_s = 0; now_s = 0 })
        (searched : Searched c.partition [] (Ok part) t u) (kept : u.losses ≡ t.losses) where
      -- the text that is put is that of its map
      text : printed heading shown_state (domain_map length_ part)
          ≡ text_of c line length_ (read_deeds c searched.reads)
      text =
          ap (λ (h : HeadingLines). printed h shown_state (domain_map length_ part)) heads
          ∙ ap (text_by line length_) (sym searched.to)

      has : HasPart c.partition (records_of searched.reads)
      has = record { first = part.first; count = part.count; part = searched.to }

      pub put_worked : Puts Out (printed heading shown_state (domain_map length_ part)) p q → Did Done
      put_worked puts = record {
        done = read_done Done searched.reads searched.gained.told searched.gained.right searched.next has
            (subst (λ (x : List ℕ). Puts Out x p q) text puts);
        cause = record {
          opens = stays.faults ∙ a.kept;
          reads = kept ∙ a.losses;
          calls = refl;
          takes = refl;
          puts = puts.kept;
        };
        also = tt;
        keeps = keeps_more s t u a.keeps stays.keeps;
      }

      pub unput_worked : PutsPart Out (printed heading shown_state (domain_map length_ part)) p q → Did ConsoleFault
      unput_worked part_of = record {
        done = read_done ConsoleFault searched.reads searched.gained.told searched.gained.right searched.next has
            (subst (λ (x : List ℕ). PutsPart Out x p q) text part_of);
        cause = record {
          opens = stays.faults ∙ a.kept;
          reads = kept ∙ a.losses;
          calls = refl;
          takes = refl;
          puts = part_of.rose;
        };
        also = tt;
        keeps = keeps_more s t u a.keeps stays.keeps;
      }

  -- the search stopped
  pub stopped_worked : (words : List (List ℕ)) (p : ConsoleState) (stop : SearchStop)
      → Searched c.partition [] (Err stop) t u → u.losses ≡ losses_after stop t.losses → Did words p p (ending_of stop)
  stopped_worked words p SearchLost searched losses = record {
    done = read_done words p p (ending_of SearchLost) searched.reads searched.gained.told searched.gained.right
        searched.next searched.to refl;
    cause = record {
      opens = stays.faults ∙ a.kept;
      reads = losses ∙ ap raised a.losses;
      calls = refl;
      takes = refl;
      puts = refl;
    };
    also = tt;
    keeps = keeps_more s t u a.keeps stays.keeps;
  }
  stopped_worked words p (SearchRefused refusal) searched losses = record {
    done = read_done words p p (ending_of (SearchRefused refusal)) searched.reads searched.gained.told
        searched.gained.right searched.next searched.to refl;
    cause = record {
      opens = stays.faults ∙ a.kept;
      reads = losses ∙ a.losses;
      calls = refl;
      takes = refl;
      puts = refl;
    };
    also = tt;
    keeps = keeps_more s t u a.keeps stays.keeps;
  }
