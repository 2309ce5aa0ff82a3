-- The image's calls, and the disk that follows them.
use Rattle.std.proofs.Common.{◌≡◌, ◌⊎◌, inl, inr, ⊎_elim, ℕ, zero, suc, ◌+◌, ◌≤◌, max, List, [], ◌∷◌, ◌++◌, length, take, Option, Some, None, refl, sym, ◌∙◌, ap, subst, arith}
use Rattle.std.specs.List.{flat_map}
use Rattle.std.specs.Str.{bytes_eq}
use Rattle.std.proofs.lemmas.Bool.{cases_Bool, cases_lt, cond-false, cond-true}
use Rattle.std.proofs.lemmas.Bool.Decides.{eqb_tells}
use Rattle.std.proofs.lemmas.List.{length-take}
use Rattle.kernel_files.specs.Volume.{Node, Volume, write, sync_file, sync_folder, folder_of, with_piece, with_loss, synced, at_node, Entry as Step, Done as Did, Failed as Broke, after as after_steps, after_done as after_step, after_part as step_part, MayRead, MayFind, Leaves as LeavesEntry, LeavesOne}
use Rattle.kernel_files.specs.Stops.{Along}
use Rattle.kernel_files.proofs.Volumes.{own_name, other_name, node_here, node_other, finds_same}
use Rattle.crash_site.specs.Files.{File, written, written_file, put}
use Rattle.crash_site.specs.Calls.{Call, Done, Failed, image_write, image_sync}
use Rattle.crash_site.specs.Folder.{Folder, if_any, with_piece as with_written}
use Rattle.crash_site.specs.Disk.{Version, Showing, Disk, loosen, lose, lose_all, in_each, newest, lost_in, without, synced as shown_synced, with_range, under, under_some, entered}
use Rattle.crash_site.specs.Left.{loose_end, Matches, MayShow}
use Rattle.crash_site.proofs.DiskLemmas.{holds_self}
use Rattle.crash_site.proofs.RangeLemmas.{without_rest, without_end}
use Rattle.kernel_laws.specs.Refines.{as_file, read_at, files_of, Within, IsAmong, IsFirm, Begun, DraftIs, Refines, Inside, Covers, CoversEntry, IsCovered, Imaged, Follows}
use Rattle.kernel_files.specs.ImageCalls.{Writes, BreaksWrite}
use Rattle.kernel_laws.specs.Calls.{SyncsImage, BreaksSync}
use Rattle.kernel_laws.proofs.Nodes.{file_with, sound_lost, sound_synced}
use Rattle.kernel_laws.proofs.Names.{is_name, not_name, finds_here, free_at, read_same}
use Rattle.kernel_laws.proofs.Stops.{along_map, along_end, along_append, run_append}
use Rattle.kernel_laws.proofs.Settles.{one_among}
use Rattle.kernel_laws.proofs.Covers.{inside_same, inside_on, inside_both, covers_found, covered_found, which, free_by, covered_change, newest_change}
use Rattle.kernel_laws.proofs.Spares.{one_fewer, some_is}
use Rattle.kernel_laws.proofs.Images.{Grown, Wrote, LostRest, grown_same, grown_loss, wrote_at, writes_along, writes_bytes, writes_lost}

-- what holds along the calls of one of the site
abbrev pub KeepsAll : Volume → Disk → Call → List Step → (o k : Option ℕ) → Type 0
KeepsAll v d call es o k = Along (Within (entered d (Failed call 0))) v es
    × Follows (after_steps v es) (entered d (Done call)) o k

abbrev pub FailsAll : Volume → Disk → Call → ℕ → List Step → (o k : Option ℕ) → Type 0
FailsAll v d call steps es o k = Along (Within (entered d (Failed call steps))) v es
    × Follows (after_steps v es) (entered d (Failed call steps)) o k

-- the files while one alone changes, and entries that may be left are dropped
pub record Stays (i : ℕ) (old new : Volume) : Type 0 where
  pub names : new.names ≡ old.names
  pub fewer : (n : List ℕ) (e : Option ℕ) → IsAmong e (new.may n) → IsAmong e (old.may n)
  pub here : (n : List ℕ) → IsAmong (new.names n) (new.may n)
  pub others : (j : ℕ) → (j ≡ i → ⊥) → new.nodes j ≡ old.nodes j
  pub sound : MayRead (new.nodes i) (new.nodes i).bytes

-- what the site shows under the image's name fits its file
pub record Fits (name : List ℕ) (i : ℕ) (w : Volume) (s : Showing) : Type 0 where
  pub covered : (e : Option ℕ) → IsAmong e (w.may name) → IsCovered w.nodes e s
  pub loose : Inside (w.nodes i).loose (newest s.durable s.since).loose
  pub lost : Inside (w.nodes i).lost (lost_in s)
  pub ordered : Inside (w.nodes i).lost (w.nodes i).loose

-- an entry is none, or leads to a file that is covered after a change as before
entry_keep : (old new : ℕ → Node) (i : ℕ) (e : Option ℕ) → (e ≡ None) ⊎ (e ≡ Some i) → (file : Option File)
    (a b : List (ℕ × ℕ))
    → ((was : File) → Covers (old i) was a → Covers (new i) was b) → CoversEntry old e file a → CoversEntry new e file b
entry_keep old new i None own None a b keep c = c
entry_keep old new i None own (Some was) a b keep c = c
entry_keep old new i (Some j) own None a b keep c = c
entry_keep old new i (Some j) (inl none) (Some was) a b keep c = absurd (cc)
entry_keep old new i (Some j) (inr is) (Some was) a b keep c =
    subst (λ (k : ℕ). Covers (old k) was a → Covers (new k) was b) (sym (some_is j i is)) (keep was) c

grown_covers : (pos len : ℕ) (f g : Node) (was : File) (a : List (ℕ × ℕ)) → Grown pos len f g → Covers f was a
    → Covers g was ((pos, len) ∷ a)
grown_covers pos len f g was a h c = record {
  durable = subst (λ (b : List ℕ). Matches was ((pos, len) ∷ a) (file_with b)) (sym h.durable) (record {
    stands = λ x lt. ⊎_elim (λ l. inl (inr l)) (λ e. inr e) (c.durable.stands x lt);
    no_shorter = c.durable.no_shorter;
    no_longer = (let k : length f.durable ≤ max (length was.bytes) (loose_end a) = c.durable.no_longer in omega (arith, k));
    regular = c.durable.regular;
  });
  loose = inside_on g.loose ((pos, len) ∷ f.loose) ((pos, len) ∷ a) h.loose (inside_both (pos, len) f.loose a c.loose);
}

synced_covers : (f : Node) (was : File) (a : List (ℕ × ℕ)) → MayRead f f.bytes → Inside f.lost f.loose → Covers f was a
    → Covers (synced f) was a
synced_covers f was a sound ordered c = record {
  durable = covers_found f was a f.bytes c sound;
  loose = inside_on f.lost f.loose a ordered c.loose;
}

lost_covers : (f : Node) (was : File) (a : List (ℕ × ℕ)) → Covers f was a → Covers (record f { lost = f.loose }) was a
lost_covers f was a c = record { durable = c.durable; loose = c.loose }

full_piece : (pos : ℕ) (piece : List ℕ) (f : Node) → (piece ≡ [] → ⊥)
    → (with_piece pos piece f).bytes ≡ written f.bytes pos piece
full_piece pos [] f some = absurd (some refl)
full_piece pos (b ∷ bs) f some = refl

module _ (v : Volume) (d : Disk) (o : Option ℕ) (i : ℕ) (name : List ℕ) (r : Refines v d o) (m : Imaged name i v d) where
  abbrev shown : Showing
  shown = d.shows name

  -- a draft isn't the image
  draft_else : (draft : List ℕ) (j : ℕ) → d.reads.draft ≡ Some draft → Begun draft j v → j ≡ i → ⊥
  draft_else draft j is b e =
      free_at i (v.names draft) (v.may draft)
      (m.begun.apart draft (λ same. m.draft (is ∙ ap (λ (n : List ℕ). Some n) same)))
      (r.here draft) (b.named ∙ ap (λ (k : ℕ). Some k) e)

  -- what another name may lead to isn't the image
  never : (n : List ℕ) (e : Option ℕ) → (n ≡ name → ⊥) → IsAmong e (v.may n) → e ≡ Some i → ⊥
  never n e apart is = free_at i e (v.may n) (m.begun.apart n apart) is

  image_file : d.reads.files name ≡ Some (file_with (v.nodes i).bytes)
  image_file = r.reads name ∙ ap (λ (e : Option ℕ). as_file (read_at v.nodes e)) m.begun.named

  found_here : (w : Volume) (s : Showing) → ((e : Option ℕ) → IsAmong e (w.may name) → IsCovered w.nodes e s)
      → (found : Option (List ℕ)) → MayFind w name found → MayShow s (as_file found)
  found_here w s covered found h =
      let k : (e : Option ℕ) × IsAmong e (w.may name) × LeavesEntry w.nodes e found = which w.nodes (w.may name) found h in
      covered_found w.nodes k.0 s found (covered k.0 k.1) k.2

  found_else : (w : Volume) → Stays i v w → (n : List ℕ) → (n ≡ name → ⊥) → (found : Option (List ℕ)) → MayFind w n found
      → MayFind v n found
  found_else w s n apart found h =
      let k : (e : Option ℕ) × IsAmong e (w.may n) × LeavesEntry w.nodes e found = which w.nodes (w.may n) found h in
      let old : IsAmong k.0 (v.may n) = s.fewer n k.0 k.1 in
      let one : LeavesOne v.nodes (k.0 ∷ []) found =
      finds_same v.nodes w.nodes i s.others (k.0 ∷ []) (never n k.0 apart old, tt) found (inl k.2) in
      finds_here v.nodes k.0 (v.may n) found old (elim one [ inl now ↦ now | inr bad ↦ absurd bad ])

  pub stays_within : (e : Disk) (w : Volume) → Stays i v w → ((n : List ℕ) → (n ≡ name → ⊥) → e.shows n ≡ d.shows n)
      → ((x : Option ℕ) → IsAmong x (w.may name) → IsCovered w.nodes x (e.shows name)) → Within e w
  stays_within e w s others covered n found h =
      elim (cases_Bool (bytes_eq n name)) [
        | inl is ↦ subst (λ (k : List ℕ). MayShow (e.shows k) (as_file found)) (sym (is_name n name is))
            (found_here w (e.shows name) covered found (subst (λ (k : List ℕ). MayFind w k found) (is_name n name is) h))
        | inr isnt ↦ subst (λ (t : Showing). MayShow t (as_file found)) (sym (others n (not_name n name isnt)))
            (r.shows n found (found_else w s n (not_name n name isnt) found h))
      ]

  pub stays_reads : (w : Volume) → Stays i v w → (n : List ℕ) → (n ≡ name → ⊥) → d.reads.files n ≡ files_of w n
  stays_reads w s n apart =
      r.reads n
      ∙ ap as_file (sym (read_same v.nodes w.nodes i s.others (v.names n) (never n (v.names n) apart (r.here n))))
      ∙ ap (λ (names : List ℕ → Option ℕ). as_file (read_at w.nodes (names n))) (sym s.names)

  stays_begun : (w : Volume) → Stays i v w → (n : List ℕ) (j : ℕ) → Begun n j v → Begun n j w
  stays_begun w s n j b = record {
    named = ap (λ (f : List ℕ → Option ℕ). f n) s.names ∙ b.named;
    apart = λ k a. free_by j (w.may k) (λ x is. free_at j x (v.may k) (b.apart k a) (s.fewer k x is));
  }

  stays_draft : (e : Disk) (w : Volume) → Stays i v w → ((n : List ℕ) → (n ≡ name → ⊥) → e.shows n ≡ d.shows n)
      → e.reads.draft ≡ d.reads.draft → e.firm ≡ d.firm → (p : Option ℕ) → DraftIs v d p → DraftIs w e p
  stays_draft e w s others draft firm None is = tt
  stays_draft e w s others draft firm (Some j) is = (
    is.0,
    draft ∙ is.1,
    stays_begun w s is.0 j is.2,
    ap (λ (t : Showing). t.anything)
        (others is.0 (λ same. m.draft (is.1 ∙ ap (λ (n : List ℕ). Some n) same))) ∙ is.3,
    λ f. subst (λ (g : Node). IsFirm g) (sym (s.others j (draft_else is.0 j is.1 is.2))) (is.4 (sym firm ∙ f)),
  )

  -- the disk after a call on the image
  pub record After (e : Disk) (w : Volume) (s : Showing) : Type 0 where
    pub shows : (n : List ℕ) → (n ≡ name → ⊥) → e.shows n ≡ d.shows n
    pub own : e.shows name ≡ s
    pub image : e.reads.image ≡ d.reads.image
    pub draft : e.reads.draft ≡ d.reads.draft
    pub firm : e.firm ≡ d.firm
    pub reads : e.reads.files name ≡ files_of w name
    pub others : (n : List ℕ) → (n ≡ name → ⊥) → e.reads.files n ≡ d.reads.files n

  after_within : (e : Disk) (w u : Volume) (s : Showing) → After e w s → Stays i v u
      → ((x : Option ℕ) → IsAmong x (u.may name) → IsCovered u.nodes x s) → Within e u
  after_within e w u s a stays covered =
      stays_within e u stays a.shows (λ x is. subst (λ (t : Showing). IsCovered u.nodes x t) (sym a.own) (covered x is))

  pub follows : (e : Disk) (w : Volume) (s : Showing) → After e w s → Stays i v w → Fits name i w s
      → Follows w e o (Some i)
  follows e w s a stays fits = record {
    files = record {
      shows = after_within e w w s a stays fits.covered;
      reads = λ n. elim (cases_Bool (bytes_eq n name)) [
        | inl is ↦ ap (λ (k : List ℕ). e.reads.files k) (is_name n name is) ∙ a.reads
            ∙ ap (λ (k : List ℕ). files_of w k) (sym (is_name n name is))
        | inr isnt ↦ a.others n (not_name n name isnt) ∙ stays_reads w stays n (not_name n name isnt)
      ];
      here = stays.here;
      sound = λ j. elim (eqb_tells j i) [
        | inl is ↦ subst (λ (k : ℕ). MayRead (w.nodes k) (w.nodes k).bytes) (sym is.1) stays.sound
        | inr isnt ↦ subst (λ (f : Node). MayRead f f.bytes) (sym (stays.others j isnt.1)) (r.sound j)
      ];
      draft = stays_draft e w stays a.shows a.draft a.firm o r.draft;
    };
    image = (
      name,
      record {
        image = a.image ∙ m.image;
        draft = λ is. m.draft (sym a.draft ∙ is);
        begun = stays_begun w stays name i m.begun;
        own = λ x is. m.own x (stays.fewer name x is);
        covered = λ x is. subst (λ (t : Showing). IsCovered w.nodes x t) (sym a.own) (fits.covered x is);
        loose = subst (λ (t : Showing). Inside (w.nodes i).loose (newest t.durable t.since).loose) (sym a.own) fits.loose;
        lost = subst (λ (t : Showing). Inside (w.nodes i).lost (lost_in t)) (sym a.own) fits.lost;
        ordered = fits.ordered;
      },
    );
  }

  -- what the name's file is after it changed
  reads_bytes : (w : Volume) (b : List ℕ) → Stays i v w → (w.nodes i).bytes ≡ b → Some (file_with b) ≡ files_of w name
  reads_bytes w b s same =
      ap (λ (c : List ℕ). Some (file_with c)) (sym same)
      ∙ ap (λ (e : Option ℕ). as_file (read_at w.nodes e)) (sym (stays_begun w s name i m.begun).named)

  -- what the disk shows if the image's name changes
  here_shows : (change : Option File → Showing → Showing)
      → (under name change d).shows name ≡ change (Some (file_with (v.nodes i).bytes)) shown
  here_shows change =
      cond-true (bytes_eq name name) (change (d.reads.files name) shown) shown (own_name name)
      ∙ ap (λ (f : Option File). change f shown) image_file

  else_shows : (change : Option File → Showing → Showing) (n : List ℕ) → (n ≡ name → ⊥)
      → (under name change d).shows n ≡ d.shows n
  else_shows change n apart =
      cond-false (bytes_eq n name) (change (d.reads.files n) (d.shows n)) (d.shows n) (other_name n name apart)

  -- Writes.

  first_wrote : (pos len : ℕ) → Wrote i pos len v v
  first_wrote pos len = record {
    names = refl;
    may = refl;
    others = λ j a. refl;
    node = grown_same pos len (v.nodes i) m.ordered (r.sound i);
  }

  wrote_stays : (pos len : ℕ) (w : Volume) → Wrote i pos len v w → Stays i v w
  wrote_stays pos len w h = record {
    names = h.names;
    fewer = λ n e is. subst (λ (f : List ℕ → List (Option ℕ)). IsAmong e (f n)) h.may is;
    here = λ n. subst (λ (f : List ℕ → Option ℕ). IsAmong (f n) (w.may n)) (sym h.names)
        (subst (λ (f : List ℕ → List (Option ℕ)). IsAmong (v.names n) (f n)) (sym h.may) (r.here n));
    others = h.others;
    sound = h.node.sound;
  }

  -- in each version the range is loose
  abbrev wider : ℕ → ℕ → Showing
  wider pos len = in_each (loosen pos len) shown

  abbrev losing : ℕ → ℕ → Showing
  losing pos len = in_each (lose pos len) (in_each (loosen pos len) shown)

  wider_covered : (pos len : ℕ) (w : Volume) → Wrote i pos len v w → (x : Option ℕ) → IsAmong x (w.may name)
      → IsCovered w.nodes x (wider pos len)
  wider_covered pos len w h x is =
      let old : IsAmong x (v.may name) = (wrote_stays pos len w h).fewer name x is in
      covered_change v.nodes w.nodes x (loosen pos len)
      (λ a c. entry_keep v.nodes w.nodes i x (m.own x old) a.file a.loose ((pos, len) ∷ a.loose)
      (λ was k. grown_covers pos len (v.nodes i) (w.nodes i) was a.loose h.node k) c)
      shown (m.covered x old)

  losing_covered : (pos len : ℕ) (w : Volume) → Wrote i pos len v w → (x : Option ℕ) → IsAmong x (w.may name)
      → IsCovered w.nodes x (losing pos len)
  losing_covered pos len w h x is =
      covered_change w.nodes w.nodes x (lose pos len) (λ a c. c) (wider pos len) (wider_covered pos len w h x is)

  write_shows : (pos : ℕ) (piece : List ℕ)
      → (entered d (Done (image_write pos piece))).shows name ≡ wider pos (length piece)
  write_shows pos piece =
      ap (λ (q : Option (List ℕ)). (under_some q (with_range pos (length piece)) d).shows name) m.image
      ∙ here_shows (with_range pos (length piece))

  write_else : (pos : ℕ) (piece : List ℕ) (n : List ℕ) → (n ≡ name → ⊥)
      → (entered d (Done (image_write pos piece))).shows n ≡ d.shows n
  write_else pos piece n apart =
      ap (λ (q : Option (List ℕ)). (under_some q (with_range pos (length piece)) d).shows n) m.image
      ∙ else_shows (with_range pos (length piece)) n apart

  -- the image after it was written
  piece_reads : (pos : ℕ) (piece : List ℕ)
      → with_written d.reads d.reads.image pos piece
      ≡ record { files = put d.reads.files name (Some (written_file (d.reads.files name) pos piece)); image = d.reads.image; draft = d.reads.draft }
  piece_reads pos piece = ap (λ (q : Option (List ℕ)). with_written d.reads q pos piece) m.image

  piece_here : (pos : ℕ) (piece : List ℕ) (w : Volume) → Stays i v w
      → (w.nodes i).bytes ≡ written (v.nodes i).bytes pos piece
      → (with_written d.reads d.reads.image pos piece).files name ≡ files_of w name
  piece_here pos piece w s same =
      ap (λ (q : Folder). q.files name) (piece_reads pos piece)
      ∙ cond-true (bytes_eq name name) (Some (written_file (d.reads.files name) pos piece)) (d.reads.files name) (own_name name)
      ∙ ap (λ (f : Option File). Some (written_file f pos piece)) image_file
      ∙ reads_bytes w (written (v.nodes i).bytes pos piece) s same

  piece_else : (pos : ℕ) (piece : List ℕ) (n : List ℕ) → (n ≡ name → ⊥)
      → (with_written d.reads d.reads.image pos piece).files n ≡ d.reads.files n
  piece_else pos piece n apart =
      ap (λ (q : Folder). q.files n) (piece_reads pos piece)
      ∙ cond-false (bytes_eq n name) (Some (written_file (d.reads.files name) pos piece)) (d.reads.files n) (other_name n name apart)

  wider_fits : (pos len : ℕ) (w : Volume) → Wrote i pos len v w
      → LostRest pos len (v.nodes i).lost (w.nodes i).lost → Fits name i w (wider pos len)
  wider_fits pos len w h rest =
      let new : Version = newest shown.durable shown.since in
      let is : newest (wider pos len).durable (wider pos len).since ≡ loosen pos len new =
      newest_change (loosen pos len) shown.durable shown.since in record {
        covered = wider_covered pos len w h;
        loose = subst (λ (a : Version). Inside (w.nodes i).loose a.loose) (sym is)
            (inside_on (w.nodes i).loose ((pos, len) ∷ (v.nodes i).loose) ((pos, len) ∷ new.loose) h.node.loose
            (inside_both (pos, len) (v.nodes i).loose new.loose m.loose));
        lost = subst (λ (a : Version). Inside (w.nodes i).lost a.lost) (sym is) (record {
          places = λ x l.
              let k = rest.places x l in without_rest pos len new.lost x (m.lost.places x k.0) k.1;
          end = (let a : loose_end (w.nodes i).lost ≤ loose_end (v.nodes i).lost = rest.end in
              let b : loose_end (v.nodes i).lost ≤ loose_end new.lost = m.lost.end in
              let c = without_end pos len new.lost in omega (arith, a, b, c));
        });
        ordered = h.node.ordered;
      }

  losing_fits : (pos len : ℕ) (w : Volume) → Wrote i pos len v w → Fits name i w (losing pos len)
  losing_fits pos len w h =
      let new : Version = newest shown.durable shown.since in
      let is : newest (losing pos len).durable (losing pos len).since ≡ lose pos len (loosen pos len new) =
      newest_change (lose pos len) (wider pos len).durable (wider pos len).since
      ∙ ap (lose pos len) (newest_change (loosen pos len) shown.durable shown.since) in record {
        covered = losing_covered pos len w h;
        loose = subst (λ (a : Version). Inside (w.nodes i).loose a.loose) (sym is)
            (inside_on (w.nodes i).loose ((pos, len) ∷ (v.nodes i).loose) ((pos, len) ∷ new.loose) h.node.loose
            (inside_both (pos, len) (v.nodes i).loose new.loose m.loose));
        lost = subst (λ (a : Version). Inside (w.nodes i).lost a.lost) (sym is)
            (inside_on (w.nodes i).lost ((pos, len) ∷ (v.nodes i).lost) ((pos, len) ∷ flat_map (without pos len) new.lost) h.node.lost
            (record {
              places = λ x l. elim l [
                | inl here ↦ inl here
                | inr old ↦ elim (cases_lt x pos) [
                  | inl below ↦ inr (without_rest pos len new.lost x (m.lost.places x old) (inl below))
                  | inr le ↦ elim (cases_lt x (pos + len)) [
                    | inl inside ↦ inl (le, inside)
                    | inr above ↦ inr (without_rest pos len new.lost x (m.lost.places x old) (inr above))
                  ]
                ]
              ];
              end = (let a : loose_end (v.nodes i).lost ≤ loose_end new.lost = m.lost.end in
                  let c = without_end pos len new.lost in omega (arith, a, c));
            }));
        ordered = h.node.ordered;
      }

  -- the disk of a write that failed
  lose_shows : (pos : ℕ) (piece : List ℕ) (steps : ℕ)
      → (entered d (Failed (image_write pos piece) steps)).shows name ≡ losing pos (length piece)
  lose_shows pos piece steps =
      let range = with_range pos (length piece) in
      let lost : Option File → Showing → Showing = λ file s. in_each (lose pos (length piece)) s in
      ap (λ (q : Option (List ℕ)). (under_some (under_some q range d).reads.image lost (under_some q range d)).shows name) m.image
      ∙ ap (λ (q : Option (List ℕ)). (under_some q lost (under name range d)).shows name) m.image
      ∙ cond-true (bytes_eq name name) (in_each (lose pos (length piece)) ((under name range d).shows name)) ((under name range d).shows name) (own_name name)
      ∙ ap (λ (s : Showing). in_each (lose pos (length piece)) s) (here_shows range)

  lose_else : (pos : ℕ) (piece : List ℕ) (steps : ℕ) (n : List ℕ) → (n ≡ name → ⊥)
      → (entered d (Failed (image_write pos piece) steps)).shows n ≡ d.shows n
  lose_else pos piece steps n apart =
      let range = with_range pos (length piece) in
      let lost : Option File → Showing → Showing = λ file s. in_each (lose pos (length piece)) s in
      ap (λ (q : Option (List ℕ)). (under_some (under_some q range d).reads.image lost (under_some q range d)).shows n) m.image
      ∙ ap (λ (q : Option (List ℕ)). (under_some q lost (under name range d)).shows n) m.image
      ∙ cond-false (bytes_eq n name) (in_each (lose pos (length piece)) ((under name range d).shows n)) ((under name range d).shows n) (other_name n name apart)
      ∙ else_shows range n apart

  lose_firm : (pos : ℕ) (piece : List ℕ) (steps : ℕ) → (entered d (Failed (image_write pos piece) steps)).firm ≡ d.firm
  lose_firm pos piece steps =
      let range = with_range pos (length piece) in
      let lost : Option File → Showing → Showing = λ file s. in_each (lose pos (length piece)) s in
      ap (λ (q : Option (List ℕ)). (under_some (under_some q range d).reads.image lost (under_some q range d)).firm) m.image
      ∙ ap (λ (q : Option (List ℕ)). (under_some q lost (under name range d)).firm) m.image

  write_firm : (pos : ℕ) (piece : List ℕ) → (entered d (Done (image_write pos piece))).firm ≡ d.firm
  write_firm pos piece = ap (λ (q : Option (List ℕ)). (under_some q (with_range pos (length piece)) d).firm) m.image

  -- a failed write leaves nothing else
  losing_within : (pos : ℕ) (piece : List ℕ) (steps : ℕ) (w : Volume) → Wrote i pos (length piece) v w
      → Within (entered d (Failed (image_write pos piece) steps)) w
  losing_within pos piece steps w h =
      stays_within (entered d (Failed (image_write pos piece) steps)) w (wrote_stays pos (length piece) w h)
      (lose_else pos piece steps)
      (λ x is. subst (λ (t : Showing). IsCovered w.nodes x t) (sym (lose_shows pos piece steps)) (losing_covered pos (length piece) w h x is))

  pub writes : (pos : ℕ) (piece : List ℕ) (es : List Step) → (piece ≡ [] → ⊥) → Writes i pos piece es
      → KeepsAll v d (image_write pos piece) es o (Some i)
  writes pos piece es some made =
      let len : ℕ = length piece in
      let along : Along (Wrote i pos len v) v es = writes_along i pos len pos piece es v v made (omega arith) (omega arith) (first_wrote pos len) in
      let w : Volume = after_steps v es in
      let h : Wrote i pos len v w = along_end (Wrote i pos len v) v es along in
      let s : Stays i v w = wrote_stays pos len w h in
      let bytes : (w.nodes i).bytes ≡ written (v.nodes i).bytes pos piece =
      writes_bytes i pos piece es v made ∙ full_piece pos piece (v.nodes i) some in (
        along_map (Wrote i pos len v) (Within (entered d (Failed (image_write pos piece) 0))) (λ u k. losing_within pos piece 0 u k) v es along,
        follows (entered d (Done (image_write pos piece))) w (wider pos len) (record {
          shows = write_else pos piece;
          own = write_shows pos piece;
          image = ap (λ (q : Folder). q.image) (piece_reads pos piece);
          draft = ap (λ (q : Folder). q.draft) (piece_reads pos piece);
          firm = write_firm pos piece;
          reads = piece_here pos piece w s bytes;
          others = piece_else pos piece;
        }) s (wider_fits pos len w h (writes_lost i pos piece es v made)),
      )

  -- A write that failed.

  abbrev taken : ℕ → ℕ → List ℕ → List ℕ → Option File
  taken steps pos piece = if_any steps (with_written d.reads d.reads.image pos (take steps piece)).files d.reads.files

  taken_here : (steps pos : ℕ) (piece : List ℕ) (w : Volume) → Stays i v w → steps ≤ length piece
      → (w.nodes i).bytes ≡ (with_piece pos (take steps piece) (v.nodes i)).bytes
      → taken steps pos piece name ≡ files_of w name
  taken_here zero pos piece w s le same = image_file ∙ reads_bytes w (v.nodes i).bytes s same
  taken_here (suc k) pos piece w s le same =
      piece_here pos (take (suc k) piece) w s
      (same ∙ full_piece pos (take (suc k) piece) (v.nodes i)
      (λ none. let e : length (take (suc k) piece) ≡ 0 = ap length none in omega (arith, e, length-take (suc k) piece, le)))

  taken_else : (steps pos : ℕ) (piece : List ℕ) (n : List ℕ) → (n ≡ name → ⊥)
      → taken steps pos piece n ≡ d.reads.files n
  taken_else zero pos piece n apart = refl
  taken_else (suc k) pos piece n apart = piece_else pos (take (suc k) piece) n apart

  fails_by : (pos : ℕ) (piece : List ℕ) (steps : ℕ) (es : List Step) → steps ≤ length piece
      → Along (Wrote i pos (length piece) v) v es
      → ((after_steps v es).nodes i).bytes ≡ (with_piece pos (take steps piece) (v.nodes i)).bytes
      → FailsAll v d (image_write pos piece) steps es o (Some i)
  fails_by pos piece steps es le along bytes =
      let len : ℕ = length piece in
      let w : Volume = after_steps v es in
      let h : Wrote i pos len v w = along_end (Wrote i pos len v) v es along in
      let s : Stays i v w = wrote_stays pos len w h in (
        along_map (Wrote i pos len v) (Within (entered d (Failed (image_write pos piece) steps))) (λ u k. losing_within pos piece steps u k) v es along,
        follows (entered d (Failed (image_write pos piece) steps)) w (losing pos len) (record {
          shows = lose_else pos piece steps;
          own = lose_shows pos piece steps;
          image = refl;
          draft = refl;
          firm = lose_firm pos piece steps;
          reads = taken_here steps pos piece w s le bytes;
          others = taken_else steps pos piece;
        }) s (losing_fits pos len w h),
      )

  pub breaks_write : (pos : ℕ) (piece : List ℕ) (steps : ℕ) (es : List Step) → BreaksWrite i pos piece steps es
      → FailsAll v d (image_write pos piece) steps es o (Some i)
  breaks_write pos piece steps es (front, le, made, ends) =
      let len : ℕ = length piece in
      let size : length (take steps piece) ≤ len = omega (arith, length-take steps piece) in
      let along : Along (Wrote i pos len v) v front =
      writes_along i pos len pos (take steps piece) front v v made (omega arith) (omega (arith, size)) (first_wrote pos len) in
      elim ends [
        | inl is ↦ subst (λ (l : List Step). FailsAll v d (image_write pos piece) steps l o (Some i)) (sym is)
            (fails_by pos piece steps front le along (writes_bytes i pos (take steps piece) front v made))
        | inr more ↦
            let w : Volume = after_steps v front in
            let h : Wrote i pos len v w = along_end (Wrote i pos len v) v front along in
            let rest : List ℕ = more.0 in
            let part : Wrote i pos len v (step_part (write i (pos + steps) rest) w) =
            wrote_at i i pos len (with_loss (pos + steps) (length rest)) v w refl
            (grown_loss pos len (pos + steps) (length rest) (v.nodes i) (w.nodes i) (omega arith)
            (let e : steps + length rest ≤ length piece = more.1 in omega (arith, e)) h.node) h in
            subst (λ (l : List Step). FailsAll v d (image_write pos piece) steps l o (Some i)) (sym more.2)
            (fails_by pos piece steps (front ++ Broke (write i (pos + steps) rest) ∷ []) le
            (along_append (Wrote i pos len v) v front (Broke (write i (pos + steps) rest) ∷ []) along (h, part, part))
            (ap (λ (u : Volume). (u.nodes i).bytes) (run_append v front (Broke (write i (pos + steps) rest) ∷ []))
            ∙ ap (λ (f : Node). f.bytes) (node_here i (with_loss (pos + steps) (length rest)) w)
            ∙ writes_bytes i pos (take steps piece) front v made))
      ]

  -- Syncs.

  abbrev half : Volume
  half = step_part (sync_file i) v

  abbrev full : Volume
  full = after_step (sync_file i) v

  stays_first : Stays i v v
  stays_first = record {
    names = refl;
    fewer = λ n e is. is;
    here = r.here;
    others = λ j a. refl;
    sound = r.sound i;
  }

  stays_node : (change : Node → Node) → MayRead (change (v.nodes i)) (change (v.nodes i)).bytes
      → Stays i v (at_node i change v)
  stays_node change sound = record {
    names = refl;
    fewer = λ n e is. is;
    here = r.here;
    others = λ j a. node_other i j change v a;
    sound = subst (λ (f : Node). MayRead f f.bytes) (sym (node_here i change v)) sound;
  }

  half_stays : Stays i v half
  half_stays = stays_node (λ f. record f { lost = f.loose }) (sound_lost (v.nodes i) (r.sound i))

  full_stays : Stays i v full
  full_stays = stays_node synced (sound_synced (v.nodes i))

  -- entries are dropped
  abbrev bare : List ℕ → Volume → Volume
  bare folder w = after_step (sync_folder folder) w

  bare_stays : (folder : List ℕ) (w : Volume) → Stays i v w → Stays i v (bare folder w)
  bare_stays folder w s = record {
    names = s.names;
    fewer = λ n e is. s.fewer n e (one_fewer (bytes_eq (folder_of n) folder) e (w.names n) (w.may n) (s.here n) is);
    here = λ n. one_among (bytes_eq (folder_of n) folder) (w.names n) (w.may n) (s.here n);
    others = s.others;
    sound = s.sound;
  }

  abbrev lost_shown : Showing
  lost_shown = in_each lose_all shown

  -- in each version what is loose is lost
  lost_covered : (w : Volume) → Stays i v w
      → ((was : File) (a : List (ℕ × ℕ)) → Covers (v.nodes i) was a → Covers (w.nodes i) was a)
      → (x : Option ℕ) → IsAmong x (w.may name) → IsCovered w.nodes x lost_shown
  lost_covered w s keep x is =
      let old : IsAmong x (v.may name) = s.fewer name x is in
      covered_change v.nodes w.nodes x lose_all
      (λ a c. entry_keep v.nodes w.nodes i x (m.own x old) a.file a.loose a.loose (λ was k. keep was a.loose k) c)
      shown (m.covered x old)

  half_covers : (was : File) (a : List (ℕ × ℕ)) → Covers (v.nodes i) was a → Covers (half.nodes i) was a
  half_covers was a c =
      subst (λ (f : Node). Covers f was a) (sym (node_here i (λ f. record f { lost = f.loose }) v)) (lost_covers (v.nodes i) was a c)

  full_covers : (was : File) (a : List (ℕ × ℕ)) → Covers (v.nodes i) was a → Covers (full.nodes i) was a
  full_covers was a c =
      subst (λ (f : Node). Covers f was a) (sym (node_here i synced v)) (synced_covers (v.nodes i) was a (r.sound i) m.ordered c)

  lost_shows : (steps : ℕ) → (entered d (Failed image_sync steps)).shows name ≡ lost_shown
  lost_shows steps =
      ap (λ (q : Option (List ℕ)). (under_some q (λ file s. in_each lose_all s) d).shows name) m.image
      ∙ here_shows (λ file s. in_each lose_all s)

  lost_else : (steps : ℕ) (n : List ℕ) → (n ≡ name → ⊥) → (entered d (Failed image_sync steps)).shows n ≡ d.shows n
  lost_else steps n apart =
      ap (λ (q : Option (List ℕ)). (under_some q (λ file s. in_each lose_all s) d).shows n) m.image
      ∙ else_shows (λ file s. in_each lose_all s) n apart

  lost_firm : (steps : ℕ) → (entered d (Failed image_sync steps)).firm ≡ d.firm
  lost_firm steps = ap (λ (q : Option (List ℕ)). (under_some q (λ file s. in_each lose_all s) d).firm) m.image

  lost_within : (steps : ℕ) (w : Volume) → Stays i v w
      → ((was : File) (a : List (ℕ × ℕ)) → Covers (v.nodes i) was a → Covers (w.nodes i) was a)
      → Within (entered d (Failed image_sync steps)) w
  lost_within steps w s keep =
      stays_within (entered d (Failed image_sync steps)) w s (lost_else steps)
      (λ x is. subst (λ (t : Showing). IsCovered w.nodes x t) (sym (lost_shows steps)) (lost_covered w s keep x is))

  first_within : (steps : ℕ) → Within (entered d (Failed image_sync steps)) v
  first_within steps = lost_within steps v stays_first (λ was a c. c)

  half_within : (steps : ℕ) → Within (entered d (Failed image_sync steps)) half
  half_within steps = lost_within steps half half_stays half_covers

  full_within : (steps : ℕ) → Within (entered d (Failed image_sync steps)) full
  full_within steps = lost_within steps full full_stays full_covers

  bare_within : (steps : ℕ) (folder : List ℕ) → Within (entered d (Failed image_sync steps)) (bare folder full)
  bare_within steps folder = lost_within steps (bare folder full) (bare_stays folder full full_stays) full_covers

  -- the image reads as before
  same_here : (w : Volume) → Stays i v w → (w.nodes i).bytes ≡ (v.nodes i).bytes → d.reads.files name ≡ files_of w name
  same_here w s same = image_file ∙ reads_bytes w (v.nodes i).bytes s same

  lost_newest : newest lost_shown.durable lost_shown.since ≡ lose_all (newest shown.durable shown.since)
  lost_newest = newest_change lose_all shown.durable shown.since

  -- after a sync that failed, with a file that holds no more than was loose
  lost_follows : (steps : ℕ) (w : Volume) → Stays i v w → (w.nodes i).bytes ≡ (v.nodes i).bytes
      → ((was : File) (a : List (ℕ × ℕ)) → Covers (v.nodes i) was a → Covers (w.nodes i) was a)
      → Inside (w.nodes i).loose (v.nodes i).loose → Inside (w.nodes i).lost (v.nodes i).loose
      → Inside (w.nodes i).lost (w.nodes i).loose
      → Follows w (entered d (Failed image_sync steps)) o (Some i)
  lost_follows steps w s same keep loose lost ordered =
      let new : Version = newest shown.durable shown.since in
      follows (entered d (Failed image_sync steps)) w lost_shown (record {
        shows = lost_else steps;
        own = lost_shows steps;
        image = refl;
        draft = refl;
        firm = lost_firm steps;
        reads = same_here w s same;
        others = λ n a. refl;
      }) s (record {
        covered = lost_covered w s keep;
        loose = subst (λ (a : Version). Inside (w.nodes i).loose a.loose) (sym lost_newest)
            (inside_on (w.nodes i).loose (v.nodes i).loose new.loose loose m.loose);
        lost = subst (λ (a : Version). Inside (w.nodes i).lost a.lost) (sym lost_newest)
            (inside_on (w.nodes i).lost (v.nodes i).loose new.loose lost m.loose);
        ordered = ordered;
      })

  first_follows : (steps : ℕ) → Follows v (entered d (Failed image_sync steps)) o (Some i)
  first_follows steps =
      lost_follows steps v stays_first refl (λ was a c. c) (inside_same (v.nodes i).loose) m.ordered m.ordered

  half_follows : (steps : ℕ) → Follows half (entered d (Failed image_sync steps)) o (Some i)
  half_follows steps =
      let is : half.nodes i ≡ record (v.nodes i) { lost = (v.nodes i).loose } = node_here i (λ f. record f { lost = f.loose }) v in
      lost_follows steps half half_stays (ap (λ (f : Node). f.bytes) is) half_covers
      (subst (λ (f : Node). Inside f.loose (v.nodes i).loose) (sym is) (inside_same (v.nodes i).loose))
      (subst (λ (f : Node). Inside f.lost (v.nodes i).loose) (sym is) (inside_same (v.nodes i).loose))
      (subst (λ (f : Node). Inside f.lost f.loose) (sym is) (inside_same (v.nodes i).loose))

  full_follows : (steps : ℕ) → Follows full (entered d (Failed image_sync steps)) o (Some i)
  full_follows steps =
      let is : full.nodes i ≡ synced (v.nodes i) = node_here i synced v in
      lost_follows steps full full_stays (ap (λ (f : Node). f.bytes) is) full_covers
      (subst (λ (f : Node). Inside f.loose (v.nodes i).loose) (sym is) m.ordered)
      (subst (λ (f : Node). Inside f.lost (v.nodes i).loose) (sym is) m.ordered)
      (subst (λ (f : Node). Inside f.lost f.loose) (sym is) (inside_same (v.nodes i).lost))

  bare_follows : (steps : ℕ) (folder : List ℕ) → Follows (bare folder full) (entered d (Failed image_sync steps)) o (Some i)
  bare_follows steps folder =
      let is : full.nodes i ≡ synced (v.nodes i) = node_here i synced v in
      lost_follows steps (bare folder full) (bare_stays folder full full_stays) (ap (λ (f : Node). f.bytes) is) full_covers
      (subst (λ (f : Node). Inside f.loose (v.nodes i).loose) (sym is) m.ordered)
      (subst (λ (f : Node). Inside f.lost (v.nodes i).loose) (sym is) m.ordered)
      (subst (λ (f : Node). Inside f.lost f.loose) (sym is) (inside_same (v.nodes i).lost))

  -- after a sync that returned
  abbrev sure : Showing
  sure = shown_synced (Some (file_with (v.nodes i).bytes)) shown

  sure_shows : (entered d (Done image_sync)).shows name ≡ sure
  sure_shows =
      ap (λ (q : Option (List ℕ)). (under_some q shown_synced d).shows name) m.image ∙ here_shows shown_synced

  sure_else : (n : List ℕ) → (n ≡ name → ⊥) → (entered d (Done image_sync)).shows n ≡ d.shows n
  sure_else n apart =
      ap (λ (q : Option (List ℕ)). (under_some q shown_synced d).shows n) m.image ∙ else_shows shown_synced n apart

  sure_firm : (entered d (Done image_sync)).firm ≡ d.firm
  sure_firm = ap (λ (q : Option (List ℕ)). (under_some q shown_synced d).firm) m.image

  sure_covers : Covers (synced (v.nodes i)) (file_with (v.nodes i).bytes) (lost_in shown)
  sure_covers = record { durable = holds_self (Some (file_with (v.nodes i).bytes)) (lost_in shown); loose = m.lost }

  one_entry : (w : Volume) → w.nodes i ≡ synced (v.nodes i) → w.may name ≡ Some i ∷ [] → (x : Option ℕ)
      → IsAmong x (w.may name) → IsCovered w.nodes x sure
  one_entry w node may x is =
      let k : (x ≡ Some i) ⊎ ⊥ = subst (λ (l : List (Option ℕ)). IsAmong x l) may is in
      elim k [
        | inl e ↦ subst (λ (y : Option ℕ). IsCovered w.nodes y sure) (sym e)
            (inr (inr (inl (subst (λ (f : Node). Covers f (file_with (v.nodes i).bytes) (lost_in shown)) (sym node) sure_covers))))
        | inr bad ↦ absurd bad
      ]

  sure_follows : (w : Volume) → Stays i v w → w.nodes i ≡ synced (v.nodes i) → w.may name ≡ Some i ∷ []
      → Follows w (entered d (Done image_sync)) o (Some i)
  sure_follows w s node may =
      follows (entered d (Done image_sync)) w sure (record {
        shows = sure_else;
        own = sure_shows;
        image = refl;
        draft = refl;
        firm = sure_firm;
        reads = same_here w s (ap (λ (f : Node). f.bytes) node);
        others = λ n a. refl;
      }) s (record {
        covered = one_entry w node may;
        loose = subst (λ (f : Node). Inside f.loose (lost_in shown)) (sym node) m.lost;
        lost = subst (λ (f : Node). Inside f.lost (lost_in shown)) (sym node) m.lost;
        ordered = subst (λ (f : Node). Inside f.lost f.loose) (sym node) (inside_same (v.nodes i).lost);
      })

  pub syncs_both : KeepsAll v d image_sync (Did (sync_file i) ∷ Did (sync_folder (folder_of name)) ∷ []) o (Some i)
  syncs_both =
      let folder : List ℕ = folder_of name in
      let may : (bare folder full).may name ≡ Some i ∷ [] =
      cond-true (bytes_eq folder folder) (v.names name ∷ []) (v.may name) (own_name folder)
      ∙ ap (λ (e : Option ℕ). e ∷ []) m.begun.named in (
        (first_within 0, half_within 0, (full_within 0, full_within 0, bare_within 0 folder)),
        sure_follows (bare folder full) (bare_stays folder full full_stays) (node_here i synced v) may,
      )

  pub syncs_file : v.may name ≡ Some i ∷ [] → KeepsAll v d image_sync (Did (sync_file i) ∷ []) o (Some i)
  syncs_file may =
      ((first_within 0, half_within 0, full_within 0), sure_follows full full_stays (node_here i synced v) may)

  -- the name under which the site has the image
  same_image : (n : List ℕ) → d.reads.image ≡ Some n → n ≡ name
  same_image n is = (let e : Some n ≡ Some name = sym is ∙ m.image in cc)

  pub syncs : (es : List Step) → SyncsImage v d.reads (Some i) es → KeepsAll v d image_sync es o (Some i)
  syncs es (n, is, inl made) =
      subst (λ (l : List Step). KeepsAll v d image_sync l o (Some i))
      (sym (made ∙ ap (λ (k : List ℕ). Did (sync_file i) ∷ Did (sync_folder (folder_of k)) ∷ []) (same_image n is))) syncs_both
  syncs es (n, is, inr made) =
      subst (λ (l : List Step). KeepsAll v d image_sync l o (Some i)) (sym made.1)
      (syncs_file (ap v.may (sym (same_image n is)) ∙ made.0))

  pub breaks_sync : (steps : ℕ) (es : List Step) → BreaksSync d.reads (Some i) es
      → FailsAll v d image_sync steps es o (Some i)
  breaks_sync steps es (n, is, inl made) =
      subst (λ (l : List Step). FailsAll v d image_sync steps l o (Some i)) (sym made)
      (first_within steps, first_follows steps)
  breaks_sync steps es (n, is, inr (inl made)) =
      subst (λ (l : List Step). FailsAll v d image_sync steps l o (Some i)) (sym made)
      ((first_within steps, half_within steps, half_within steps), half_follows steps)
  breaks_sync steps es (n, is, inr (inr (inl made))) =
      subst (λ (l : List Step). FailsAll v d image_sync steps l o (Some i)) (sym made)
      ((first_within steps, half_within steps, full_within steps), full_follows steps)
  breaks_sync steps es (n, is, inr (inr (inr (inl made)))) =
      subst (λ (l : List Step). FailsAll v d image_sync steps l o (Some i)) (sym made)
      ((first_within steps, half_within steps, (full_within steps, full_within steps, full_within steps)), full_follows steps)
  breaks_sync steps es (n, is, inr (inr (inr (inr made)))) =
      let folder : List ℕ = folder_of n in
      subst (λ (l : List Step). FailsAll v d image_sync steps l o (Some i)) (sym made)
      ((first_within steps, half_within steps, (full_within steps, full_within steps, bare_within steps folder)), bare_follows steps folder)
