-- The parts of a save, one after the other.
use Rattle.std.proofs.Common.{◌≡◌, ℕ, Bool, true, false, IsTrue, List, [], ◌∷◌, ◌++◌, map, Result, Ok, Err, refl, sym, subst, ap, ◌∙◌, ⊎_elim}
use Rattle.fault_count.specs.Counts.{raised}
use Rattle.crash_site.specs.declared.site.SiteCall.{SiteCall}
use Rattle.crash_site.specs.Calls.{Call, draft_append, draft_sync}
use Rattle.crash_site.specs.SiteState.{SiteState}
use Rattle.mapfile_text.specs.Pieces.{pieces_of}
use Rattle.mapfile_save.specs.declared.draft.SaveFault.{SaveFault}
use Rattle.mapfile_save.specs.MapNames.{MapNames}
use Rattle.mapfile_save.specs.Saving.{begin_calls, fill_calls, publish_calls, save_calls, drafting_after_fault, IsNameIn, Saves}
use Rattle.mapfile_save.proofs.CallLemmas.{made_more, broke_front, broke_back, named_front, named_back}
use Rattle.mapfile_save.proofs.FillLemmas.{keeps_more}

-- whether a draft is begun after one of these calls that failed doesn't depend on what was begun before
abbrev pub FixesTheDraft : List Call → Type 0
FixesTheDraft calls = (at : SiteCall) (a b : Bool) → IsNameIn at calls → drafting_after_fault at a ≡ drafting_after_fault at b

publish_settles : (names : MapNames) → FixesTheDraft (publish_calls names)
publish_settles names at a b h =
    ⊎_elim (λ e. rw e refl) (λ r. ⊎_elim (λ e. rw e refl) (λ no. absurd no) r) h

firm_settles : (names : MapNames) → FixesTheDraft (draft_sync ∷ publish_calls names)
firm_settles names at a b h = ⊎_elim (λ e. rw e refl) (λ r. publish_settles names at a b r) h

appends_settle : (names : MapNames) (ps : List (List ℕ)) → FixesTheDraft (map draft_append ps ++ draft_sync ∷ publish_calls names)
appends_settle names [] at a b h = firm_settles names at a b h
appends_settle names (p ∷ ps) at a b h = ⊎_elim (λ e. rw e refl) (λ r. appends_settle names ps at a b r) h

-- a part that was made, and then another
saves_more : {T U : Type 0} (xs ys : List Call) (d d' : Bool) (x : T) (y : U) (old mid new : SiteState)
    → Saves xs d (Ok x) old mid → Saves ys d' (Ok y) mid new → Saves (xs ++ ys) d' (Ok y) old new
saves_more xs ys d d' x y old mid new f g = record {
  keeps = keeps_more old mid new f.keeps g.keeps;
  made = record {
    made = λ t. made_more old.calls mid.calls new.calls xs ys (f.made.made t)
        (g.made.made (subst (λ (b : Bool). IsTrue b) (sym f.keeps.tells) t));
    faults = g.made.faults ∙ f.made.faults;
  };
  broke = tt;
  named = tt;
  image = g.image ∙ f.image;
  draft = g.draft;
  draft_left = tt;
}

-- a part that was made, and then one that failed
breaks_more : {T U : Type 0} (xs ys : List Call) (d d' d'' : Bool) (x : T) (e : SaveFault) (old mid new : SiteState)
    → FixesTheDraft ys → Saves xs d (Ok x) old mid → Saves {T = U} ys d' (Err e) mid new → Saves {T = U} (xs ++ ys) d'' (Err e) old new
breaks_more xs ys d d' d'' x e old mid new settles f g = record {
  keeps = keeps_more old mid new f.keeps g.keeps;
  made = tt;
  broke = record {
    broke = λ t. broke_back e.call xs ys old.calls mid.calls new.calls (f.made.made t)
        (g.broke.broke (subst (λ (b : Bool). IsTrue b) (sym f.keeps.tells) t));
    rose = g.broke.rose ∙ ap raised f.made.faults;
  };
  named = named_back e.call xs ys g.named;
  image = g.image ∙ f.image;
  draft = tt;
  draft_left = g.draft_left ∙ settles e.call mid.is_drafting old.is_drafting g.named;
}

-- a part that failed, and others that weren't made
breaks_early : {T U : Type 0} (xs ys : List Call) (d d' : Bool) (e : SaveFault) (old new : SiteState)
    → Saves {T = T} xs d (Err e) old new → Saves {T = U} (xs ++ ys) d' (Err e) old new
breaks_early xs ys d d' e old new f = record {
  keeps = f.keeps;
  made = tt;
  broke = record { broke = λ t. broke_front e.call xs ys old.calls new.calls (f.broke.broke t); rose = f.broke.rose };
  named = named_front e.call xs ys f.named;
  image = f.image;
  draft = tt;
  draft_left = f.draft_left;
}

pub breaks_in_fill : {T U V : Type 0} (names : MapNames) (text : List ℕ) (x : T) (e : SaveFault) (old mid new : SiteState)
    → Saves (begin_calls names) true (Ok x) old mid → Saves {T = U} (fill_calls text) true (Err e) mid new
    → Saves {T = V} (save_calls names text) false (Err e) old new
breaks_in_fill names text x e old mid new f g =
    breaks_more (begin_calls names) (fill_calls text ++ draft_sync ∷ publish_calls names) true true false x e old mid new
    (appends_settle names (pieces_of text)) f
    (breaks_early (fill_calls text) (draft_sync ∷ publish_calls names) true true e mid new g)

pub breaks_in_firm : {T U V W : Type 0} (names : MapNames) (text : List ℕ) (x : T) (y : U) (e : SaveFault) (old mid last new : SiteState)
    → Saves (begin_calls names) true (Ok x) old mid → Saves (fill_calls text) true (Ok y) mid last
    → Saves {T = V} (draft_sync ∷ []) true (Err e) last new
    → Saves {T = W} (save_calls names text) false (Err e) old new
breaks_in_firm names text x y e old mid last new f g h =
    breaks_more (begin_calls names) (fill_calls text ++ draft_sync ∷ publish_calls names) true true false x e old mid new
    (appends_settle names (pieces_of text)) f
    (breaks_more (fill_calls text) (draft_sync ∷ publish_calls names) true true true y e mid last new (firm_settles names) g
    (breaks_early (draft_sync ∷ []) (publish_calls names) true true e last new h))

pub breaks_in_publish : {T U V W : Type 0} (names : MapNames) (text : List ℕ) (x : T) (y : U) (z : V) (e : SaveFault)
    (old mid last firm new : SiteState)
    → Saves (begin_calls names) true (Ok x) old mid → Saves (fill_calls text) true (Ok y) mid last
    → Saves (draft_sync ∷ []) true (Ok z) last firm
    → Saves {T = W} (publish_calls names) false (Err e) firm new → Saves {T = W} (save_calls names text) false (Err e) old new
breaks_in_publish names text x y z e old mid last firm new f g h k =
    breaks_more (begin_calls names) (fill_calls text ++ draft_sync ∷ publish_calls names) true true false x e old mid new
    (appends_settle names (pieces_of text)) f
    (breaks_more (fill_calls text) (draft_sync ∷ publish_calls names) true true true y e mid last new (firm_settles names) g
    (breaks_more (draft_sync ∷ []) (publish_calls names) true false true z e last firm new (publish_settles names) h k))

all_saved : {T U V W : Type 0} (names : MapNames) (text : List ℕ) (x : T) (y : U) (z : V) (w : W) (old mid last firm new : SiteState)
    → Saves (begin_calls names) true (Ok x) old mid → Saves (fill_calls text) true (Ok y) mid last
    → Saves (draft_sync ∷ []) true (Ok z) last firm
    → Saves (publish_calls names) false (Ok w) firm new → Saves (save_calls names text) false (Ok w) old new
all_saved names text x y z w old mid last firm new f g h k =
    saves_more (begin_calls names) (fill_calls text ++ draft_sync ∷ publish_calls names) true false x w old mid new f
    (saves_more (fill_calls text) (draft_sync ∷ publish_calls names) true false y w mid last new g
    (saves_more (draft_sync ∷ []) (publish_calls names) true false z w last firm new h k))

-- a save that came to its last part goes as that does
pub saved_or_broke : {T U V W : Type 0} (names : MapNames) (text : List ℕ) (x : T) (y : U) (z : V) (result : Result W SaveFault)
    (old mid last firm new : SiteState)
    → Saves (begin_calls names) true (Ok x) old mid → Saves (fill_calls text) true (Ok y) mid last
    → Saves (draft_sync ∷ []) true (Ok z) last firm
    → Saves (publish_calls names) false result firm new → Saves (save_calls names text) false result old new
saved_or_broke names text x y z (Ok w) old mid last firm new f g h k = all_saved names text x y z w old mid last firm new f g h k
saved_or_broke names text x y z (Err e) old mid last firm new f g h k = breaks_in_publish names text x y z e old mid last firm new f g h k
