-- What is printed lies within the bytes lent for it.
use Rattle.std.proofs.Common.{sym, ◌++◌, take, replicate, length-take-le}
use Rattle.std.proofs.lemmas.List.{length-replicate}
use Rattle.verdict_lines.specs.Lines.{verdict_line}
use Rattle.results.proofs.ResultsLaw.{front_bytes}
use Rattle.check_main.proofs.run.Goals as goal

pub slice_bounds-write_text-end : goal.slice_bounds-write_text-end
slice_bounds-write_text-end c =
    let t = c.in-Some.t in
    let more = t.more in
    (front_bytes (verdict_line (take t.len c.read_text.new.text ++ replicate more 0)) _ _ c.args.out.now
    (c.print_verdict-r.ensures (replicate more 0) (length-replicate more 0))).0

pub slice_bounds-write_text-end-2 : goal.slice_bounds-write_text-end-2
slice_bounds-write_text-end-2 c =
    let t = c.in-Some.t in
    let more = t.more in
    sym (length-take-le c.print_verdict-r.result _ (front_bytes (verdict_line (take t.len c.read_text.new.text ++ replicate more 0)) _ _ c.args.out.now
    (c.print_verdict-r.ensures (replicate more 0) (length-replicate more 0))).0)
