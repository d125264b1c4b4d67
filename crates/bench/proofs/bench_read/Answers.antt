use Rattle.bench.proofs.bench_read.Goals as goal

pub returns : goal.returns
returns c = rw (← c.read_refusal.ensures) c.answer_of.ensures
