use Rattle.std.proofs.Common.{ℕ, List, take, length, Ok, refl, sym, ap, ◌∙◌, arith}
use Rattle.std.proofs.lemmas.List.{take_all}
use Rattle.kernel_files.specs.Volume.{append}
use Rattle.kernel_files.specs.declared.memory.Act.TheVariants.{Append}
use Rattle.kernel_files.proofs.Logs.{made_act, counts_kept}
use Rattle.kernel_files.proofs.memory.MemoryKernelKernel.append.Goals as goal

pub invariant_of-self : goal.invariant_of-self
invariant_of-self c = record {
  counts = counts_kept c.args.self.now.made (Append c.args.file.now.number c.in-Ok.copied) c.list.result c.args.self.now.log.items c.list.new.log.items refl c.list.ensures.ok c.list.ensures.err c.args.self.now.counts;
}

pub returns-clause-made : goal.returns-clause-made
returns-clause-made c =
    let p = c.args.piece.now in (
      length p,
      omega arith,
      refl,
      made_act (append c.args.file.now.number (take (length p) p)) (Append c.args.file.now.number c.in-Ok.copied) (Ok (length p)) c.args.self.now.log.items c.list.new.log.items
          (ap (λ (b : List ℕ). append c.args.file.now.number b) (c.in-Ok.ensures.items ∙ sym (take_all (length p) p (omega arith)))) c.in_ok-list.ensures.ok tt,
    )
