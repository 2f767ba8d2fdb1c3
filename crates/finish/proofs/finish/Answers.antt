use mathlib.Core.Path.{refl}
use Rattle.offers.specs.of_cut_lists.Buffers.{cut_buffers}
use Rattle.finish.proofs.finish.Goals as goal

pub returns : goal.returns
returns c =
    record {
      vertex = c.lower_all.ensures;
      edges = c.forget.ensures;
      words = refl {a = c.args.words.now};
      reals = refl {a = c.args.reals.now};
      keys = c.zero_f64.ensures;
      events = c.zero_u32.ensures;
      cuts = λ i. cut_buffers (c.zero_f64-2.ensures i) (c.zero_f64-3.ensures i) (c.zero_f64-4.ensures i) (c.zero_f64-5.ensures i);
    }
