-- Each word goes on from what the words before it have brought.
use Rattle.std.proofs.Common.{◌<◌, ◌≤◌, length, arith}
use Rattle.std.proofs.lemmas.Result.{err_from_is_err_and}
use Rattle.option_words.proofs.ReadLemmas.{read_all, read_breaks, read_more, read_spots, read_unserved}
use Rattle.option_words.proofs.reader.read_by_rows.Goals as goal

pub loop-i-preserved : goal.loop-i-preserved
loop-i-preserved c =
    let within : c.loop-i.i < length c.args.words.now = omega arith in
    read_more c.args.rows.now c.args.words.now c.loop-i.i c.loop-i.reader c.take_word.new.self c.get.result.now within c.get.ensures c.get.utf8
    c.loop-i.invariant c.in_ok-take_word.ensures.ok

pub returns-clause-reading : goal.returns-clause-reading
returns-clause-reading c =
    let past : length c.args.words.now ≤ c.loop-i.i = omega arith in
    read_all c.finish.result c.args.rows.now c.args.words.now c.loop-i.i c.loop-i.reader past c.loop-i.invariant
    c.finish.ensures.ok c.finish.ensures.items c.finish.ensures.operands

pub returns-clause-spots : goal.returns-clause-spots
returns-clause-spots c = read_spots c.finish.result c.args.rows.now c.args.words.now c.loop-i.i c.loop-i.reader c.loop-i.invariant c.finish.ensures.items

pub returns-in_err-take_word : goal.returns-in_err-take_word
returns-in_err-take_word c =
    let p = err_from_is_err_and c.from_residual.result c.from_residual.ensures.1 in
    let within : c.loop-i.i < length c.args.words.now = omega arith in
    rw (p.1, p.2) record {
      reading = tt;
      spots = tt;
      fault = read_breaks c.args.rows.now c.args.words.now c.loop-i.i c.loop-i.reader c.get.result.now _ within
          c.get.ensures c.loop-i.invariant c.in_err-take_word.ensures.err;
    }

pub returns-clause-fault : goal.returns-clause-fault
returns-clause-fault c =
    let past : length c.args.words.now ≤ c.loop-i.i = omega arith in
    read_unserved c.finish.result c.args.rows.now c.args.words.now c.loop-i.i c.loop-i.reader past c.loop-i.invariant
    c.finish.ensures.err
