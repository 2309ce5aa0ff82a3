use Rattle.std.proofs.Common.{ℕ, List, Ok, refl, sym, ap, subst, ◌∙◌}
use Rattle.std.proofs.lemmas.Result.{err_from_is_err_and}
use Rattle.kernel_files.specs.Volume.{create, IsNew}
use Rattle.kernel_files.specs.Answers.{volume}
use Rattle.kernel_files.specs.Log.{creates, told_of}
use Rattle.kernel_files.specs.declared.memory.Act.{Act}
use Rattle.kernel_files.specs.declared.memory.Act.TheVariants.{Create}
use Rattle.kernel_files.proofs.Logs.{made_act, not_made, new_number, counts_more}
use Rattle.kernel_files.proofs.memory.MemoryKernelKernel.create_new.Goals as goal

pub returns-in-Some : goal.returns-in-Some
returns-in-Some c =
    let acts = c.args.self.now.log.items in
    (creates acts, λ _. new_number acts, tt, tt, not_made (create c.args.name.now (creates acts)) _ acts acts refl)

pub returns-in_default : goal.returns-in_default
returns-in_default c = let acts = c.args.self.now.log.items in (creates acts, λ _. new_number acts, tt, tt, not_made (create c.args.name.now (creates acts)) _ acts acts refl)

pub returns-then-self : goal.returns-then-self
returns-then-self c = let acts = c.args.self.now.log.items in (creates acts, λ _. new_number acts, tt, tt, not_made (create c.args.name.now (creates acts)) _ acts acts refl)

pub returns-in_err-list : goal.returns-in_err-list
returns-in_err-list c =
    let acts = c.args.self.now.log.items in
    let p = err_from_is_err_and c.from_residual.result c.from_residual.ensures.1 in
    rw p.1
    (creates acts, λ _. new_number acts, tt, tt, not_made (create c.args.name.now (creates acts)) _ acts c.list.new.log.items c.in_err-list.ensures.err)

pub invariant_of-self-2 : goal.invariant_of-self-2
invariant_of-self-2 c = record {
  counts = counts_more c.args.self.now.made (Create c.in-Ok.copied) c.args.self.now.log.items c.list.new.log.items refl c.in_ok-list.ensures.ok c.args.self.now.counts;
}

pub returns : goal.returns
returns c =
    let acts = c.args.self.now.log.items in
    let k = c.args.self.now.made in (
      k,
      λ _. subst (λ (m : ℕ). IsNew (volume (told_of acts)) m) (sym c.args.self.now.counts) (new_number acts),
      refl,
      λ _. ap (λ (n : List ℕ). (volume (told_of acts)).names n) (sym c.as_bytes.ensures.value)
          ∙ ap (λ (l : List Act). (volume (told_of l)).names c.as_bytes.result.now) (sym c.as_slice.ensures.value)
          ∙ sym c.find.ensures ∙ c.in-None.is,
      made_act (create c.args.name.now k) (Create c.in-Ok.copied) (Ok (record { number = k })) acts c.list.new.log.items
          (ap (λ (m : ℕ). create c.in-Ok.copied.items m) (sym c.args.self.now.counts)
          ∙ ap (λ (n : List ℕ). create n k) (c.in-Ok.ensures.items ∙ c.as_bytes-2.ensures.value))
          c.in_ok-list.ensures.ok tt,
    )
