use Rattle.std.proofs.Common.{◌∙◌}
use Rattle.fields.specs.Bytes.{if_set, xtime, shifted, product, multiply}
use Rattle.fields.proofs.Worked.{examples}
use Rattle.fields.proofs.examples.worked_examples.Goals as goal

pub returns : goal.returns
unfolding if_set xtime shifted product multiply
returns c =
    record {
      stated = examples;
      computed = (
        c.add.ensures,
        c.multiply.ensures,
        c.multiply-2.ensures,
        c.multiply-3.ensures,
        c.inverse.ensures ∙ examples.wide_half,
      );
    }
