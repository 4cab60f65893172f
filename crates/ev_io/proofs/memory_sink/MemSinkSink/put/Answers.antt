use Rattle.std.proofs.Common.{rules, arith}
use Rattle.ev_io.specs.contracts.memory_sink.MemSink.{the_view}
use Rattle.ev_io.proofs.SinkLaws.{kept}
use Rattle.ev_io.proofs.memory_sink.MemSinkSink.put.Goals as goal

pub invariant_of-self : goal.invariant_of-self
invariant_of-self c = (
  omega arith,
  omega arith,
  kept (the_view c.self.inside) _ c.args.piece.now (search rules) (omega arith) (omega arith) c.self.invariant.2,
)

pub returns-then-fails-clause-calm : goal.returns-then-fails-clause-calm
returns-then-fails-clause-calm c =
    (kept (the_view c.self.inside) (the_view (record {
      room = c.self.inside.room;
      failing = c.self.inside.failing;
      taken = c.extend_from_slice.new.self;
      puts = c.saturating_add-self-inside.result;
      handed = c.saturating_add-self-inside-2.result;
      faults = c.saturating_add-self-inside-then-fails.result;
    }))
    c.args.piece.now (search rules) (omega arith) (omega arith) c.self.invariant.2).calm
