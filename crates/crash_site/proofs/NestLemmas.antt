-- The newest version has the fewest loose ranges, and what is lost of it is loose in each.
use Rattle.std.specs.Bool.{⊤}
use Rattle.std.proofs.Common.{◌≡◌, ◌⊎◌, inl, inr, ⊎_elim, ℕ, ◌≤◌, Bool, true, false, cond, List, [], ◌∷◌, map, length, Option, Some, None, refl, sym, ◌∙◌, ap, subst, arith}
use Rattle.std.specs.Str.{bytes_eq}
use Rattle.crash_site.specs.Files.{File, empty_file, draft_of}
use Rattle.crash_site.specs.Calls.{Call, Entry, Done, Failed, image_open, image_read, image_write, image_sync, map_read, draft_begin, draft_append, draft_sync, draft_publish, map_settle, map_remove}
use Rattle.crash_site.specs.Folder.{Folder}
use Rattle.crash_site.specs.Disk.{Version, Showing, Disk, whole, loosen, lose, lose_all, in_each, loosened, newest, lost_in, synced, only, at_rest, or_this, with_range, with_opened, under, under_some, with_draft, with_text, publishing, lost_by, after_part, after_return, entered, disk_after}
use Rattle.crash_site.specs.Left.{IsLoose, loose_end, MatchesFile, MatchesOne, IsText, MayShow}
use Rattle.crash_site.proofs.RangeLemmas.{without_in, without_end}

-- ranges lie in others
pub record Within (a b : List (ℕ × ℕ)) : Type 0 where
  pub places : (x : ℕ) → IsLoose a x → IsLoose b x
  pub end : loose_end a ≤ loose_end b

same_within : (a : List (ℕ × ℕ)) → Within a a
same_within a = record { places = λ x l. l; end = omega arith }

none_within : (b : List (ℕ × ℕ)) → Within [] b
none_within b = record { places = λ x l. absurd l; end = omega arith }

more_within : (r : ℕ × ℕ) (a b : List (ℕ × ℕ)) → Within a b → Within (r ∷ a) (r ∷ b)
more_within r a b h = record {
  places = λ x l. ⊎_elim (λ here. inl here) (λ there. inr (h.places x there)) l;
  end = omega (arith, h.end);
}

-- they are loose in each version
abbrev pub InEach : List (ℕ × ℕ) → List Version → Type 0
InEach a [] = ⊤
InEach a (v ∷ vs) = Within a v.loose × InEach a vs

none_each : (vs : List Version) → InEach [] vs
none_each [] = tt
none_each (v ∷ vs) = (none_within v.loose, none_each vs)

loosen_each : (pos len : ℕ) (a : List (ℕ × ℕ)) (vs : List Version) → InEach a vs
    → InEach ((pos, len) ∷ a) (map (loosen pos len) vs)
loosen_each pos len a [] h = tt
loosen_each pos len a (v ∷ vs) h = (more_within (pos, len) a v.loose h.0, loosen_each pos len a vs h.1)

lose_each : (pos len : ℕ) (a : List (ℕ × ℕ)) (vs : List Version) → InEach a vs → InEach a (map (lose pos len) vs)
lose_each pos len a [] h = tt
lose_each pos len a (v ∷ vs) h = (h.0, lose_each pos len a vs h.1)

lose_all_each : (a : List (ℕ × ℕ)) (vs : List Version) → InEach a vs → InEach a (map lose_all vs)
lose_all_each a [] h = tt
lose_all_each a (v ∷ vs) h = (h.0, lose_all_each a vs h.1)

pub newest_of : (change : Version → Version) (d : Version) (vs : List Version)
    → newest (change d) (map change vs) ≡ change (newest d vs)
newest_of change d [] = refl
newest_of change d (v ∷ vs) = refl

-- what a stop may show, with the loose and lost ranges of its newest version
pub record Nests (s : Showing) : Type 0 where
  pub top : Version
  pub is : newest s.durable s.since ≡ top
  pub lost : Within top.lost top.loose
  pub each : InEach top.loose (s.durable ∷ s.since)

nests_only : (file : Option File) → Nests (only file)
nests_only file =
    record { top = whole file; is = refl; lost = same_within []; each = (same_within [], tt) }

nests_this : (file : Option File) (s : Showing) → Nests s → Nests (or_this file s)
nests_this file s h = record {
  top = whole file;
  is = refl;
  lost = same_within [];
  each = (none_within s.durable.loose, (same_within [], none_each s.since));
}

wrote_within : (pos len : ℕ) (v : Version) → Within v.lost v.loose
    → Within (loosen pos len v).lost (loosen pos len v).loose
wrote_within pos len v h = record {
  places = λ x l. inr (h.places x (without_in pos len v.lost x l));
  end = omega (arith, h.end, without_end pos len v.lost);
}

nests_loosened : (pos len : ℕ) (s : Showing) → Nests s → Nests (loosened pos len s)
nests_loosened pos len s h = record {
  top = loosen pos len h.top;
  is = newest_of (loosen pos len) s.durable s.since ∙ ap (loosen pos len) h.is;
  lost = wrote_within pos len h.top h.lost;
  each = loosen_each pos len h.top.loose (s.durable ∷ s.since) h.each;
}

-- a write that failed
nests_unwritten : (pos len : ℕ) (s : Showing) → Nests s → Nests (in_each (lose pos len) (loosened pos len s))
nests_unwritten pos len s h =
    let t : Version = loosen pos len h.top in
    let w : Within t.lost t.loose = wrote_within pos len h.top h.lost in
    let n : Nests (loosened pos len s) = nests_loosened pos len s h in
    record {
      top = lose pos len t;
      is = newest_of (lose pos len) (loosen pos len s.durable) (map (loosen pos len) s.since)
          ∙ ap (lose pos len) (newest_of (loosen pos len) s.durable s.since ∙ ap (loosen pos len) h.is);
      lost = record {
        places = λ x l. ⊎_elim (λ here. inl here) (λ there. w.places x there) l;
        end = omega (arith, w.end);
      };
      each = lose_each pos len t.loose (map (loosen pos len) (s.durable ∷ s.since))
          (loosen_each pos len h.top.loose (s.durable ∷ s.since) h.each);
    }

nests_unsynced : (s : Showing) → Nests s → Nests (in_each lose_all s)
nests_unsynced s h = record {
  top = lose_all h.top;
  is = newest_of lose_all s.durable s.since ∙ ap lose_all h.is;
  lost = same_within h.top.loose;
  each = lose_all_each h.top.loose (s.durable ∷ s.since) h.each;
}

nests_synced : (file : Option File) (s : Showing) → Nests (synced file s)
nests_synced file s = record {
  top = record { file = file; loose = lost_in s; lost = lost_in s };
  is = refl;
  lost = same_within (lost_in s);
  each = (same_within (lost_in s), tt);
}

nests_opened : (make : Bool) (file : Option File) (s : Showing) → Nests s → Nests (with_opened make file s)
nests_opened true None s h = nests_this (Some empty_file) s h
nests_opened true (Some f) s h = h
nests_opened false file s h = h

nests_range : (pos len : ℕ) (file : Option File) (s : Showing) → Nests s → Nests (with_range pos len file s)
nests_range pos len None s h =
    nests_loosened pos len (or_this (Some empty_file) s) (nests_this (Some empty_file) s h)
nests_range pos len (Some f) s h = nests_loosened pos len s h

nests_unranged : (pos len : ℕ) (file : Option File) (s : Showing) → Nests s
    → Nests (in_each (lose pos len) (with_range pos len file s))
nests_unranged pos len None s h =
    nests_unwritten pos len (or_this (Some empty_file) s) (nests_this (Some empty_file) s h)
nests_unranged pos len (Some f) s h = nests_unwritten pos len s h

nests_same : (s : Showing) (any_text anything : Bool) → Nests s
    → Nests (record s { any_text = any_text; anything = anything })
nests_same s any_text anything h = record { top = h.top; is = h.is; lost = h.lost; each = h.each }

choose : (b : Bool) (x y : Showing) → Nests x → Nests y → Nests (cond b x y)
choose true x y h g = h
choose false x y h g = g

chosen_twice : (b : Bool) (change : Showing → Showing) (x y : Showing) → Nests (change x) → Nests y
    → Nests (cond b (change (cond b x y)) (cond b x y))
chosen_twice true change x y h g = h
chosen_twice false change x y h g = g

abbrev pub Nested : Disk → Type 0
Nested d = (n : List ℕ) → Nests (d.shows n)

nested_under : (d : Disk) (name : List ℕ) (change : Option File → Showing → Showing)
    → ((file : Option File) (s : Showing) → Nests s → Nests (change file s)) → Nested d → Nested (under name change d)
nested_under d name change keeps h =
    λ n. choose (bytes_eq n name) (change (d.reads.files n) (d.shows n)) (d.shows n)
    (keeps (d.reads.files n) (d.shows n) (h n)) (h n)

nested_some : (d : Disk) (name : Option (List ℕ)) (change : Option File → Showing → Showing)
    → ((file : Option File) (s : Showing) → Nests s → Nests (change file s)) → Nested d
    → Nested (under_some name change d)
nested_some d None change keeps h = h
nested_some d (Some name) change keeps h = nested_under d name change keeps h

nests_draft : (file : Option File) (s : Showing) → Nests s → Nests (with_draft file s)
nests_draft file s h = nests_same s s.any_text true h

nests_text : (file : Option File) (firm : Bool) (reads : Option File) (s : Showing) → Nests s
    → Nests (with_text file firm reads s)
nests_text file firm reads s h =
    nests_same (or_this file s) (cond firm s.any_text true) s.anything (nests_this file s h)

nested_publishing : (d : Disk) (o : Option (List ℕ)) (name : List ℕ) → Nested d → Nested (publishing o name d)
nested_publishing d None name h = h
nested_publishing d (Some draft) name h =
    nested_under (under draft with_draft d) name (with_text (d.reads.files draft) d.firm)
    (nests_text (d.reads.files draft) d.firm) (nested_under d draft with_draft nests_draft h)

nested_part : (d : Disk) (call : Call) → Nested d → Nested (after_part call d)
nested_part d (image_open name make) h = nested_under d name (with_opened make) (nests_opened make) h
nested_part d (image_read pos asked answer) h = h
nested_part d (image_write pos piece) h =
    nested_some d d.reads.image (with_range pos (length piece)) (nests_range pos (length piece)) h
nested_part d image_sync h = h
nested_part d (map_read name pos asked answer) h = h
nested_part d (draft_begin name) h = nested_under d name with_draft nests_draft h
nested_part d (draft_append piece) h = nested_some d d.reads.draft with_draft nests_draft h
nested_part d draft_sync h = h
nested_part d (draft_publish name) h = nested_publishing d d.reads.draft name h
nested_part d (map_settle name) h = nested_under d (draft_of name) (with_opened true) (nests_opened true) h
nested_part d (map_remove name) h = nested_under d name (λ file s. or_this None s) (λ file s n. nests_this None s n) h

nested_done : (d : Disk) (call : Call) → Nested d → Nested (after_return call d)
nested_done d (image_open name make) h = nested_part d (image_open name make) h
nested_done d (image_read pos asked answer) h = h
nested_done d (image_write pos piece) h = nested_part d (image_write pos piece) h
nested_done d image_sync h = nested_some d d.reads.image synced (λ file s n. nests_synced file s) h
nested_done d (map_read name pos asked answer) h = h
nested_done d (draft_begin name) h = nested_part d (draft_begin name) h
nested_done d (draft_append piece) h = nested_part d (draft_append piece) h
nested_done d draft_sync h = h
nested_done d (draft_publish name) h = nested_part d (draft_publish name) h
nested_done d (map_settle name) h =
    nested_under (after_part (map_settle name) d) name (λ file s. only file) (λ file s n. nests_only file)
    (nested_part d (map_settle name) h)
nested_done d (map_remove name) h = nested_part d (map_remove name) h

nested_unwritten : (d : Disk) (o : Option (List ℕ)) (pos len : ℕ) → Nested d
    → (n : List ℕ) → Nests ((under_some o (λ file s. in_each (lose pos len) s)
    (under_some o (with_range pos len) d)).shows n)
nested_unwritten d None pos len h = h
nested_unwritten d (Some name) pos len h =
    λ n. chosen_twice (bytes_eq n name) (in_each (lose pos len)) (with_range pos len (d.reads.files n) (d.shows n))
    (d.shows n) (nests_unranged pos len (d.reads.files n) (d.shows n) (h n)) (h n)

wrote_image : (d : Disk) (o : Option (List ℕ)) (pos len : ℕ)
    → (under_some o (with_range pos len) d).reads.image ≡ d.reads.image
wrote_image d None pos len = refl
wrote_image d (Some name) pos len = refl

nested_failed : (d : Disk) (call : Call) → Nested d → Nested (lost_by call (after_part call d))
nested_failed d (image_open name make) h = nested_part d (image_open name make) h
nested_failed d (image_read pos asked answer) h = h
nested_failed d (image_write pos piece) h =
    subst (λ (o : Option (List ℕ)). Nested (under_some o (λ file s. in_each (lose pos (length piece)) s)
    (under_some d.reads.image (with_range pos (length piece)) d)))
    (sym (wrote_image d d.reads.image pos (length piece))) (nested_unwritten d d.reads.image pos (length piece) h)
nested_failed d image_sync h =
    nested_some d d.reads.image (λ file s. in_each lose_all s) (λ file s n. nests_unsynced s n) h
nested_failed d (map_read name pos asked answer) h = h
nested_failed d (draft_begin name) h = nested_part d (draft_begin name) h
nested_failed d (draft_append piece) h = nested_part d (draft_append piece) h
nested_failed d draft_sync h = h
nested_failed d (draft_publish name) h = nested_part d (draft_publish name) h
nested_failed d (map_settle name) h = nested_part d (map_settle name) h
nested_failed d (map_remove name) h = nested_part d (map_remove name) h

nested_step : (d : Disk) (e : Entry) → Nested d → Nested (entered d e)
nested_step d (Done call) h = nested_done d call h
nested_step d (Failed call steps) h = nested_failed d call h

pub nested_run : (d : Disk) (es : List Entry) → Nested d → Nested (disk_after d es)
nested_run d [] h = h
nested_run d (e ∷ es) h = nested_run (entered d e) es (nested_step d e h)

pub nested_rest : (start : Folder) → Nested (at_rest start)
nested_rest start = λ n. nests_only (start.files n)

-- ---- a sync shows nothing that couldn't be found before

-- what matches what matches a version, outside of ranges that are loose there
matches_through : (o reads : Option File) (a b : List (ℕ × ℕ)) (found : Option File) → Within a b
    → MatchesFile o b reads
    → MatchesFile reads a found → MatchesFile o b found
matches_through None None a b None w h g = tt
matches_through None None a b (Some f) w h g = absurd g
matches_through None (Some r) a b found w h g = absurd h
matches_through (Some f) None a b found w h g = absurd h
matches_through (Some f) (Some r) a b None w h g = absurd g
matches_through (Some f) (Some r) a b (Some x) w h g = record {
  stands = λ i lt. ⊎_elim (λ l. inl l)
      (λ e. ⊎_elim (λ l. inl (w.places i l)) (λ e2. inr (e2 ∙ e)) (g.stands i (omega (arith, lt, h.no_shorter))))
      (h.stands i lt);
  no_shorter = omega (arith, h.no_shorter, g.no_shorter);
  no_longer = omega (arith, h.no_longer, g.no_longer, w.end);
  regular = g.regular ∙ h.regular;
}

within_through : (a b c : List (ℕ × ℕ)) → Within a b → Within b c → Within a c
within_through a b c h g =
    record { places = λ x l. g.places x (h.places x l); end = omega (arith, h.end, g.end) }

one_through : (vs : List Version) (lost loose : List (ℕ × ℕ)) (reads found : Option File) → Within lost loose
    → InEach loose vs → MatchesOne vs reads → MatchesFile reads lost found → MatchesOne vs found
one_through [] lost loose reads found w each h g = absurd h
one_through (v ∷ vs) lost loose reads found w each (inl h) g =
    inl (matches_through v.file reads lost v.loose found (within_through lost loose v.loose w each.0) h g)
one_through (v ∷ vs) lost loose reads found w each (inr h) g =
    inr (one_through vs lost loose reads found w each.1 h g)

-- a regular file stays one
text_through : (reads found : Option File) (lost : List (ℕ × ℕ)) → IsText reads → MatchesFile reads lost found
    → IsText found
text_through None found lost h g = absurd h
text_through (Some r) None lost h g = absurd g
text_through (Some r) (Some x) lost h g = g.regular ∙ h

shows_through : (s : Showing) (reads found : Option File) → Nests s → MayShow s reads
    → MatchesFile reads (lost_in s) found → MayShow s found
shows_through s reads found n (inl d) g = inl d
shows_through s reads found n (inr (inl w)) g = inr (inl (w.0, text_through reads found (lost_in s) w.1 g))
shows_through s reads found n (inr (inr h)) g =
    inr (inr (one_through (s.durable ∷ s.since) n.top.lost n.top.loose reads found n.lost n.each h
    (subst (λ (v : Version). MatchesFile reads v.lost found) n.is g)))

synced_matches : (file : Option File) (s : Showing) (found : Option File) → MayShow (synced file s) found
    → MatchesFile file (lost_in s) found
synced_matches file s found (inl d) = absurd (cc)
synced_matches file s found (inr (inl w)) = absurd (let apart : false ≡ true = w.0 in cc)
synced_matches file s found (inr (inr (inl h))) = h
synced_matches file s found (inr (inr (inr apart))) = absurd apart

pub synced_narrows : (file : Option File) (s : Showing) (found : Option File) → Nests s → MayShow s file
    → MayShow (synced file s) found → MayShow s found
synced_narrows file s found n reads h = shows_through s file found n reads (synced_matches file s found h)
