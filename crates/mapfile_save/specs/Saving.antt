-- The calls of a save, and what each of its parts says of the site.
use Rattle.std.specs.Prelude.{◌≡◌, ◌⊎◌, ℕ, Bool, true, false, List, [], ◌∷◌, ◌++◌, map, Result, OnOk, IfErr}
use Rattle.crash_site.specs.declared.site.SiteCall.{SiteCall}
use Rattle.crash_site.specs.declared.site.SiteCall.TheVariants.{ImageOpen, ImageRead, ImageWrite, ImageSync, MapRead, DraftBegin, DraftAppend, DraftSync, DraftPublish, MapSettle, MapRemove}
use Rattle.crash_site.specs.Calls.{Call, Entry, Done, image_sync, draft_begin, draft_append, draft_sync, draft_publish, map_settle}
use Rattle.crash_site.specs.CallsMade.{call_name}
use Rattle.crash_site.specs.SiteState.{SiteState}
use Rattle.crash_site.specs.SiteChanges.{Keeps, Makes, Breaks}
use Rattle.mapfile_text.specs.Pieces.{pieces_of}
use Rattle.mapfile_save.specs.declared.draft.SaveFault.{SaveFault}
use Rattle.mapfile_save.specs.MapNames.{MapNames}

-- a save begins: the image is synced, and only then a draft is begun
abbrev pub begin_calls : MapNames → List Call
begin_calls names = image_sync ∷ draft_begin names.draft ∷ []

-- a text is put into the draft piece by piece
abbrev pub fill_calls : List ℕ → List Call
fill_calls text = map draft_append (pieces_of text)

-- the draft takes the mapfile's place, and that is settled
abbrev pub publish_calls : MapNames → List Call
publish_calls names = draft_publish names.map ∷ map_settle names.map ∷ []

-- A whole save puts a whole and synced draft in the mapfile's place, after an image sync.
abbrev pub save_calls : MapNames → List ℕ → List Call
save_calls names text = begin_calls names ++ (fill_calls text ++ draft_sync ∷ publish_calls names)

-- A draft is begun: the record ends with an image sync and the draft's begin, both of which returned Ok.
pub record EndsBegun (calls : List Entry) : Type 0 where
  pub before : List Entry
  pub draft : List ℕ
  pub is : calls ≡ before ++ Done image_sync ∷ Done (draft_begin draft) ∷ []

-- The draft is filled: only appends to it came after its begin.
pub record EndsFilled (calls : List Entry) : Type 0 where
  pub before : List Entry
  pub draft : List ℕ
  pub pieces : List (List ℕ)
  pub is : calls ≡ before ++ Done image_sync ∷ Done (draft_begin draft)
      ∷ map (λ piece. Done (draft_append piece)) pieces

-- The draft is firm: it was synced after its last append.
pub record EndsFirm (calls : List Entry) : Type 0 where
  pub before : List Entry
  pub draft : List ℕ
  pub pieces : List (List ℕ)
  pub is : calls ≡ before ++ Done image_sync ∷ Done (draft_begin draft)
      ∷ (map (λ piece. Done (draft_append piece)) pieces ++ Done draft_sync ∷ [])

-- whether a draft is begun after a part of a save, by the call that failed
abbrev pub drafting_after_fault : SiteCall → (before : Bool) → Bool
drafting_after_fault ImageOpen before = before
drafting_after_fault ImageRead before = before
drafting_after_fault ImageWrite before = before
drafting_after_fault ImageSync before = before
drafting_after_fault MapRead before = before
drafting_after_fault DraftBegin before = false
drafting_after_fault DraftAppend before = true
drafting_after_fault DraftSync before = true
drafting_after_fault DraftPublish before = false
drafting_after_fault MapSettle before = false
drafting_after_fault MapRemove before = before

-- one of these calls has this name
abbrev pub IsNameIn : SiteCall → List Call → Type 0
IsNameIn at [] = ⊥
IsNameIn at (call ∷ calls) = (at ≡ call_name call) ⊎ IsNameIn at calls

-- What a part of a save does to a site, by its outcome: these calls and no other, or those up to one that failed, which
-- it names; `drafting` says whether a draft is begun after it if none failed.
pub record Saves {T : Type 0} (calls : List Call) (drafting : Bool) (result : Result T SaveFault) (old new : SiteState)
    : Type 0 where
  pub keeps : Keeps old new
  pub made : OnOk result (Makes calls old new)
  pub broke : IfErr result (λ f. Breaks f.call calls old new)
  pub named : IfErr result (λ f. IsNameIn f.call calls)
  pub image : new.is_open ≡ old.is_open
  pub draft : OnOk result (new.is_drafting ≡ drafting)
  pub draft_left : IfErr result (λ f. new.is_drafting ≡ drafting_after_fault f.call old.is_drafting)
