-- The record of a kernel in memory, and the numbers of its files.
use Rattle.std.proofs.Common.{◌≡◌, ℕ, suc, ◌+◌, ◌-◌, ◌<◌, ◌≤◌, take, length, Bool, true, false, cond, List, [], ◌∷◌, ◌++◌, Option, Some, None, inr, Result, Ok, Err, OnOk, OnErr, refl, sym, ◌∙◌, ap, subst, arith}
use Rattle.std.specs.Bool.{⊤}
use Rattle.std.specs.Str.{bytes_eq}
use Rattle.std.proofs.Math.Seq.{take-suc}
use Rattle.std.proofs.Math.ListN.{get_or}
use Rattle.kernel_files.specs.Volume.{Volume, Call, Entry, Done, create, write, append, sync_file, rename, unlink, sync_folder, folder_of, lead, after_done, entered, after, Free, IsNew}
use Rattle.kernel_files.specs.declared.memory.Act.{Act}
use Rattle.kernel_files.specs.declared.memory.Act.TheVariants.{Create, Write, Append, SyncFile, Rename, Unlink, SyncFolder}
use Rattle.kernel_files.specs.Answers.{Made, volume}
use Rattle.kernel_files.specs.Log.{makes, creates, call_at, entries_from, empty_volume, told_of}

-- numbers below this
abbrev pub BelowOne : ℕ → Option ℕ → Type 0
BelowOne k None = ⊤
BelowOne k (Some i) = i < k

abbrev pub BelowAll : ℕ → List (Option ℕ) → Type 0
BelowAll k [] = ⊤
BelowAll k (e ∷ es) = BelowOne k e × BelowAll k es

pub record Below (k : ℕ) (v : Volume) : Type 0 where
  pub names : (n : List ℕ) → BelowOne k (v.names n)
  pub may : (n : List ℕ) → BelowAll k (v.may n)

one_more : (k : ℕ) (e : Option ℕ) → BelowOne k e → BelowOne (1 + k) e
one_more k None h = tt
one_more k (Some i) h = omega (arith, h)

all_more : (k : ℕ) (es : List (Option ℕ)) → BelowAll k es → BelowAll (1 + k) es
all_more k [] h = tt
all_more k (e ∷ es) h = (one_more k e h.0, all_more k es h.1)

more : (k : ℕ) (v : Volume) → Below k v → Below (1 + k) v
more k v h = record { names = λ n. one_more k (v.names n) (h.names n); may = λ n. all_more k (v.may n) (h.may n) }

same : (k : ℕ) (v : Volume) → Below k v → Below (0 + k) v
same k v h = subst (λ (m : ℕ). Below m v) (let e : k ≡ 0 + k = omega arith in e) h

pick_one : (k : ℕ) (b : Bool) (e f : Option ℕ) → BelowOne k e → BelowOne k f → BelowOne k (cond b e f)
pick_one k true e f h g = h
pick_one k false e f h g = g

pick_all : (k : ℕ) (b : Bool) (es fs : List (Option ℕ)) → BelowAll k es → BelowAll k fs → BelowAll k (cond b es fs)
pick_all k true es fs h g = h
pick_all k false es fs h g = g

leads : (k : ℕ) (name : List ℕ) (e : Option ℕ) (v : Volume) → BelowOne k e → Below k v → Below k (lead name e v)
leads k name e v h b = record {
  names = λ n. pick_one k (bytes_eq n name) e (v.names n) h (b.names n);
  may = λ n. pick_all k (bytes_eq n name) (e ∷ v.may n) (v.may n) (h, b.may n) (b.may n);
}

-- the files of a call
below_call : (k : ℕ) (a : Act) (v : Volume) → Below k v → Below (makes a + k) (after_done (call_at k a) v)
below_call k (Create name) v h =
    let m : Below (1 + k) v = more k v h in
    leads (1 + k) name.items (Some k) (record v { nodes = (after_done (create name.items k) v).nodes }) (omega arith)
    (record { names = m.names; may = m.may })
below_call k (Write i pos piece) v h =
    same k (after_done (write i pos piece.items) v) (record { names = h.names; may = h.may })
below_call k (Append i piece) v h = same k (after_done (append i piece.items) v) (record { names = h.names; may = h.may })
below_call k (SyncFile i) v h = same k (after_done (sync_file i) v) (record { names = h.names; may = h.may })
below_call k (Rename from to) v h =
    same k (after_done (rename from.items to.items) v)
    (leads k to.items (v.names from.items) (lead from.items None v) (h.names from.items) (leads k from.items None v tt h))
below_call k (Unlink name) v h = same k (after_done (unlink name.items) v) (leads k name.items None v tt h)
below_call k (SyncFolder name) v h =
    same k (after_done (sync_folder (folder_of name.items)) v)
    (record {
      names = h.names;
      may = λ n. pick_all k (bytes_eq (folder_of n) (folder_of name.items)) (v.names n ∷ []) (v.may n) (h.names n, tt) (h.may n);
    })

below : (k : ℕ) (acts : List Act) (v : Volume) → Below k v → Below (creates acts + k) (after v (entries_from k acts))
below k [] v h = same k v h
below k (a ∷ acts) v h =
    let w : Volume = after_done (call_at k a) v in
    let e : creates acts + (makes a + k) ≡ makes a + creates acts + k = omega arith in
    subst (λ (m : ℕ). Below m (after w (entries_from (makes a + k) acts))) e (below (makes a + k) acts w (below_call k a v h))

not_one : (k : ℕ) (e : Option ℕ) → BelowOne k e → e ≡ Some k → ⊥
not_one k None h is = cc
not_one k (Some i) h is = let e : i ≡ k = cc in omega (arith, h, e)

not_all : (k : ℕ) (es : List (Option ℕ)) → BelowAll k es → Free k es
not_all k [] h = tt
not_all k (e ∷ es) h = (not_one k e h.0, not_all k es h.1)

pub new_number : (acts : List Act) → IsNew (after empty_volume (entries_from 0 acts)) (creates acts)
new_number acts =
    let v : Volume = after empty_volume (entries_from 0 acts) in
    let h : Below (creates acts + 0) v = below 0 acts empty_volume (record { names = λ n. tt; may = λ n. (tt, tt) }) in
    let k : Below (creates acts) v =
    subst (λ (m : ℕ). Below m v) (let e : creates acts + 0 ≡ creates acts = omega arith in e) h in
    record { named = λ n. not_one (creates acts) (v.names n) (k.names n); shown = λ n. not_all (creates acts) (v.may n) (k.may n) }

-- each call has an entry
pub entries_all : (k : ℕ) (acts : List Act) → length (entries_from k acts) ≡ length acts
entries_all k [] = refl
entries_all k (a ∷ acts) = ap suc (entries_all (makes a + k) acts)

-- One more call.

entries_more : (k : ℕ) (acts : List Act) (a : Act)
    → entries_from k (acts ++ a ∷ []) ≡ entries_from k acts ++ Done (call_at (creates acts + k) a) ∷ []
entries_more k [] a = ap (λ (m : ℕ). Done (call_at m a) ∷ []) (let e : k ≡ 0 + k = omega arith in e)
entries_more k (b ∷ acts) a =
    ap (λ (l : List Entry). Done (call_at k b) ∷ l)
    (entries_more (makes b + k) acts a
    ∙ ap (λ (m : ℕ). entries_from (makes b + k) acts ++ Done (call_at m a) ∷ [])
    (let e : creates acts + (makes b + k) ≡ makes b + creates acts + k = omega arith in e))

creates_more : (acts : List Act) (a : Act) → creates (acts ++ a ∷ []) ≡ creates acts + makes a
creates_more [] a = (let e : makes a + 0 ≡ 0 + makes a = omega arith in e)
creates_more (b ∷ acts) a = (let e : creates (acts ++ a ∷ []) ≡ creates acts + makes a = creates_more acts a in omega (arith, e))

pub made_act : {T E : Type 0} (call : Call) (a : Act) (r : Result T E) (acts news : List Act)
    → call_at (creates acts) a ≡ call
    → OnOk r (news ≡ acts ++ a ∷ []) → OnErr r (news ≡ acts) → Made call r (told_of acts) (told_of news)
made_act call a (Ok x) acts news is ok err = record {
  tells = refl;
  start = λ _. refl;
  done = λ _. ap (entries_from 0) ok ∙ entries_more 0 acts a
      ∙ ap (λ (m : ℕ). entries_from 0 acts ++ Done (call_at m a) ∷ []) (let e : creates acts + 0 ≡ creates acts = omega arith in e)
      ∙ ap (λ (c : Call). entries_from 0 acts ++ Done c ∷ []) is;
  failed = tt;
}
made_act call a (Err e) acts news is ok err = record {
  tells = refl;
  start = λ _. refl;
  done = tt;
  failed = λ _. inr (ap (entries_from 0) err);
}

pub not_made : {T E : Type 0} (call : Call) (e : E) (acts news : List Act) → news ≡ acts
    → Made {T = T} call (Err e) (told_of acts) (told_of news)
not_made call e acts news is =
    record { tells = refl; start = λ _. refl; done = tt; failed = λ _. inr (ap (entries_from 0) is) }

pub counts_kept : {T E : Type 0} (made : ℕ) (a : Act) (r : Result T E) (acts news : List Act) → makes a ≡ 0
    → OnOk r (news ≡ acts ++ a ∷ []) → OnErr r (news ≡ acts) → made ≡ creates acts → made ≡ creates news
counts_kept made a (Ok x) acts news none ok err is =
    let e : creates news ≡ creates acts + makes a = ap creates ok ∙ creates_more acts a in omega (arith, e, none, is)
counts_kept made a (Err x) acts news none ok err is = is ∙ ap creates (sym err)

pub counts_more : (made : ℕ) (a : Act) (acts news : List Act) → makes a ≡ 1 → news ≡ acts ++ a ∷ []
    → made ≡ creates acts
    → made + 1 ≡ creates news
counts_more made a acts news one ok is =
    let e : creates news ≡ creates acts + makes a = ap creates ok ∙ creates_more acts a in omega (arith, e, one, is)

-- The calls up to a place.

run_append : (v : Volume) (a b : List Entry) → after v (a ++ b) ≡ after (after v a) b
run_append v [] b = refl
run_append v (e ∷ a) b = run_append (entered v e) a b

volume_more : (acts : List Act) (a : Act)
    → volume (told_of (acts ++ a ∷ [])) ≡ after_done (call_at (creates acts) a) (volume (told_of acts))
volume_more acts a =
    ap (after empty_volume) (entries_more 0 acts a)
    ∙ run_append empty_volume (entries_from 0 acts) (Done (call_at (creates acts + 0) a) ∷ [])
    ∙ ap (λ (m : ℕ). after_done (call_at m a) (volume (told_of acts))) (let e : creates acts + 0 ≡ creates acts = omega arith in e)

take_next : (acts : List Act) (e : ℕ) (a : Act) → e ≤ length acts → 0 < e → a ≡ get_or acts (e - 1) a
    → take e acts ≡ take (e - 1) acts ++ a ∷ []
take_next acts e a within some is =
    ap (λ (k : ℕ). take k acts) (let k : e ≡ suc (e - 1) = omega (arith, some) in k)
    ∙ take-suc acts (e - 1) a (omega (arith, within, some))
    ∙ ap (λ (x : Act). take (e - 1) acts ++ x ∷ []) (sym is)

pub creates_next : (acts : List Act) (e : ℕ) (a : Act) → e ≤ length acts → 0 < e → a ≡ get_or acts (e - 1) a
    → creates (take e acts) ≡ creates (take (e - 1) acts) + makes a
creates_next acts e a within some is = ap creates (take_next acts e a within some is) ∙ creates_more (take (e - 1) acts) a

-- a name leads where it does after the last of these calls
pub names_next : (acts : List Act) (e k : ℕ) (a : Act) (name : List ℕ) → e ≤ length acts → 0 < e
    → a ≡ get_or acts (e - 1) a
    → k ≡ creates (take (e - 1) acts)
    → (volume (told_of (take e acts))).names name ≡ (after_done (call_at k a) (volume (told_of (take (e - 1) acts)))).names name
names_next acts e k a name within some is number =
    ap (λ (l : List Act). (volume (told_of l)).names name) (take_next acts e a within some is)
    ∙ ap (λ (v : Volume). v.names name) (volume_more (take (e - 1) acts) a)
    ∙ ap (λ (m : ℕ). (after_done (call_at m a) (volume (told_of (take (e - 1) acts)))).names name) (sym number)

-- The files, call by call.

pub makes_one : (a : Act) → makes a ≤ 1
makes_one (Create name) = omega arith
makes_one (Write i pos piece) = omega arith
makes_one (Append i piece) = omega arith
makes_one (SyncFile i) = omega arith
makes_one (Rename from to) = omega arith
makes_one (Unlink name) = omega arith
makes_one (SyncFolder name) = omega arith

pub creates_below : (acts : List Act) → creates acts ≤ length acts
creates_below [] = omega arith
creates_below (a ∷ acts) = let e = makes_one a in let f = creates_below acts in omega (arith, e, f)

pub volume_next : (acts : List Act) (e : ℕ) (a : Act) → e < length acts → a ≡ get_or acts e a
    → volume (told_of (take (suc e) acts)) ≡ after_done (call_at (creates (take e acts)) a) (volume (told_of (take e acts)))
volume_next acts e a within is =
    ap (λ (l : List Act). volume (told_of l)) (take-suc acts e a within ∙ ap (λ (x : Act). take e acts ++ x ∷ []) (sym is))
    ∙ volume_more (take e acts) a

pub creates_suc : (acts : List Act) (e : ℕ) (a : Act) → e < length acts → a ≡ get_or acts e a
    → creates (take (suc e) acts) ≡ creates (take e acts) + makes a
creates_suc acts e a within is =
    ap creates (take-suc acts e a within ∙ ap (λ (x : Act). take e acts ++ x ∷ []) (sym is)) ∙ creates_more (take e acts) a
