-- The system calls that each call of a site makes.
use Rattle.std.specs.Prelude.{◌≡◌, ◌⊎◌, ℕ, Bool, true, false, List, [], ◌∷◌, ◌++◌, Option, Some, None}
use Rattle.kernel_files.specs.Volume.{Volume, create, sync_file, rename, unlink, sync_folder, Entry as Step, Done as Did, Failed as Broke, folder_of, IsNew}
use Rattle.kernel_files.specs.MapCalls.{Begins, Appends, Probes, BreaksBegin, BreaksAppend}
use Rattle.kernel_files.specs.ImageCalls.{Writes, BreaksOpen, BreaksWrite}
use Rattle.crash_site.specs.Files.{draft_of}
use Rattle.crash_site.specs.Calls.{Call, Entry, Done, Failed, image_open, image_read, image_write, image_sync, map_read, draft_begin, draft_append, draft_sync, draft_publish, map_settle, map_remove}
use Rattle.crash_site.specs.Folder.{Folder}
use Rattle.kernel_laws.specs.Refines.{IsFirm, Begun}

-- The folder of a name is synced, and then the file, if there is one. No sync of the file has failed, and no write.
abbrev pub Syncs : Volume → List ℕ → Option ℕ → List Step → Type 0
Syncs v name None es = es ≡ Did (sync_folder (folder_of name)) ∷ []
Syncs v name (Some j) es = ((v.nodes j).lost ≡ [])
    × (es ≡ Did (sync_folder (folder_of name)) ∷ Did (sync_file j) ∷ [])

abbrev pub Settles : Volume → List ℕ → List Step → Type 0
Settles v name es =
    (probe : List Step) × (syncs : List Step) × Probes v name probe × Syncs v name (v.names name) syncs
    × (es ≡ probe ++ syncs)

-- a name isn't the image's
abbrev pub IsApart : Folder → List ℕ → Type 0
IsApart d name = d.image ≡ Some name → ⊥

-- An image is opened. Its name isn't the draft's, and what it leads to is durable: a file of its own, or none. If none
-- is there, one is made if that is asked.
abbrev pub Opens : Volume → Folder → List ℕ → Bool → List Step → Option ℕ → Type 0
Opens v d name make es q = (d.draft ≡ Some name → ⊥) × (v.may name ≡ v.names name ∷ [])
    × (((i : ℕ) × Begun name i v × IsFirm (v.nodes i) × ((v.nodes i).lost ≡ []) × (es ≡ []) × (q ≡ Some i))
    ⊎ (((i : ℕ) × (v.names name ≡ None) × (make ≡ true) × IsNew v i × (es ≡ Did (create name i) ∷ []) × (q ≡ Some i))
    ⊎ ((v.names name ≡ None) × (make ≡ false) × (es ≡ []) × (q ≡ None))))

-- the image is synced, and then its folder, unless its entry is durable already; without an image nothing is done
abbrev pub SyncsImage : Volume → Folder → Option ℕ → List Step → Type 0
SyncsImage v d None es = es ≡ []
SyncsImage v d (Some i) es = (name : List ℕ) × (d.image ≡ Some name)
    × ((es ≡ Did (sync_file i) ∷ Did (sync_folder (folder_of name)) ∷ [])
    ⊎ ((v.may name ≡ Some i ∷ []) × (es ≡ Did (sync_file i) ∷ [])))

-- The system calls of a site's call that returned Ok, by the files before it, and the draft and the image that are open
-- before and after it. A piece of the image isn't empty.
abbrev pub Makes : Volume → Folder → (o k : Option ℕ) → Call → List Step → (p q : Option ℕ) → Type 0
Makes v d o k (image_open name make) es p q = Opens v d name make es q × (p ≡ o)
Makes v d o k (image_read pos asked answer) es p q = (es ≡ []) × (p ≡ o) × (q ≡ k)
Makes v d o k (image_write pos piece) es p q = (i : ℕ) × (k ≡ Some i) × (piece ≡ [] → ⊥) × Writes i pos piece es
    × (p ≡ o) × (q ≡ k)
Makes v d o k image_sync es p q = SyncsImage v d k es × (p ≡ o) × (q ≡ k)
Makes v d o k (map_read name pos asked answer) es p q = (es ≡ []) × (p ≡ o) × (q ≡ k)
Makes v d o k (draft_begin name) es p q = (i : ℕ) × Begins v name i es × (p ≡ Some i) × IsApart d name × (q ≡ k)
Makes v d o k (draft_append piece) es p q = (i : ℕ) × (o ≡ Some i) × Appends i piece es × (p ≡ Some i) × (q ≡ k)
Makes v d o k draft_sync es p q = (i : ℕ) × (o ≡ Some i) × ((v.nodes i).lost ≡ [])
    × (es ≡ Did (sync_file i) ∷ []) × (p ≡ Some i) × (q ≡ k)
Makes v d o k (draft_publish name) es p q = (i : ℕ) × (draft : List ℕ) × (o ≡ Some i) × (d.draft ≡ Some draft)
    × (draft ≡ name → ⊥) × (es ≡ Did (rename draft name) ∷ []) × (p ≡ None) × IsApart d name × (q ≡ k)
Makes v d o k (map_settle name) es p q = (d.draft ≡ Some name → ⊥) × Settles v name es × (p ≡ o) × IsApart d name
    × (q ≡ k)
Makes v d o k (map_remove name) es p q = (d.draft ≡ Some name → ⊥)
    × (((v.names name ≡ None) × (es ≡ [])) ⊎ (es ≡ Did (unlink name) ∷ [])) × (p ≡ o) × IsApart d name × (q ≡ k)

-- a sync of the image that failed: before its calls, at one of them, between them, or after both
abbrev pub BreaksSync : Folder → Option ℕ → List Step → Type 0
BreaksSync d None es = es ≡ []
BreaksSync d (Some i) es = (name : List ℕ) × (d.image ≡ Some name)
    × ((es ≡ []) ⊎ ((es ≡ Broke (sync_file i) ∷ []) ⊎ ((es ≡ Did (sync_file i) ∷ [])
    ⊎ ((es ≡ Did (sync_file i) ∷ Broke (sync_folder (folder_of name)) ∷ [])
    ⊎ (es ≡ Did (sync_file i) ∷ Did (sync_folder (folder_of name)) ∷ [])))))

-- a settle that failed: at its first calls, at the removal of the empty draft, which it then leaves, or at a sync, which
-- isn't that of the open image
abbrev pub BreaksSettle : Volume → (k : Option ℕ) → List ℕ → ℕ → List Step → Type 0
BreaksSettle v k name steps es =
    ((steps ≡ 0) × (es ≡ []))
    ⊎ (((v.names (draft_of name) ≡ None) × (i : ℕ) × IsNew v i
    × (((steps ≡ 0) × (es ≡ Broke (create (draft_of name) i) ∷ []))
    ⊎ ((steps ≡ 1) × ((es ≡ Did (create (draft_of name) i) ∷ [])
    ⊎ (es ≡ Did (create (draft_of name) i) ∷ Broke (unlink (draft_of name)) ∷ [])))))
    ⊎ ((probe : List Step) × (steps ≡ 0) × Probes v name probe
    × ((es ≡ probe ++ [])
    ⊎ ((es ≡ probe ++ Broke (sync_folder (folder_of name)) ∷ [])
    ⊎ ((es ≡ probe ++ Did (sync_folder (folder_of name)) ∷ [])
    ⊎ ((j : ℕ) × (k ≡ Some j → ⊥)
    × (es ≡ probe ++ Did (sync_folder (folder_of name)) ∷ Broke (sync_file j) ∷ [])))))))

-- The system calls of a site's call that failed after some of its steps, and what is open after it.
abbrev pub Breaks : Volume → Folder → (o k : Option ℕ) → Call → (steps : ℕ) → List Step → (p q : Option ℕ) → Type 0
Breaks v d o k (image_open name make) steps es p q = BreaksOpen v name make steps es × (p ≡ o) × (q ≡ None)
Breaks v d o k (image_read pos asked answer) steps es p q = (es ≡ []) × (p ≡ o) × (q ≡ k)
Breaks v d o k (image_write pos piece) steps es p q = (i : ℕ) × (k ≡ Some i) × (piece ≡ [] → ⊥)
    × BreaksWrite i pos piece steps es × (p ≡ o) × (q ≡ k)
Breaks v d o k image_sync steps es p q = BreaksSync d k es × (p ≡ o) × (q ≡ k)
Breaks v d o k (map_read name pos asked answer) steps es p q = (es ≡ []) × (p ≡ o) × (q ≡ k)
Breaks v d o k (draft_begin name) steps es p q = BreaksBegin v name steps es × (p ≡ None) × IsApart d name × (q ≡ k)
Breaks v d o k (draft_append piece) steps es p q = (i : ℕ) × (o ≡ Some i) × BreaksAppend i piece steps es × (p ≡ Some i)
    × (q ≡ k)
Breaks v d o k draft_sync steps es p q = (i : ℕ) × (o ≡ Some i)
    × ((es ≡ []) ⊎ (es ≡ Broke (sync_file i) ∷ [])) × (p ≡ Some i) × (q ≡ k)
Breaks v d o k (draft_publish name) steps es p q = (i : ℕ) × (draft : List ℕ) × (o ≡ Some i) × (d.draft ≡ Some draft)
    × (draft ≡ name → ⊥) × ((es ≡ []) ⊎ (es ≡ Broke (rename draft name) ∷ [])) × (p ≡ None) × IsApart d name
    × (q ≡ k)
Breaks v d o k (map_settle name) steps es p q = (d.draft ≡ Some name → ⊥) × BreaksSettle v k name steps es × (p ≡ o)
    × IsApart d name × (q ≡ k)
Breaks v d o k (map_remove name) steps es p q = (d.draft ≡ Some name → ⊥)
    × ((es ≡ []) ⊎ (es ≡ Broke (unlink name) ∷ [])) × (p ≡ o) × IsApart d name × (q ≡ k)

-- the system calls of a site's call, by whether it failed
abbrev pub Enters : Volume → Folder → (o k : Option ℕ) → Entry → List Step → (p q : Option ℕ) → Type 0
Enters v d o k (Done call) es p q = Makes v d o k call es p q
Enters v d o k (Failed call steps) es p q = Breaks v d o k call steps es p q
