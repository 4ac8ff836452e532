use Rattle.std.proofs.Common.{◌∙◌}
use Rattle.store.proofs.Signed.{kept}
use Rattle.transitions.proofs.Rows.{used-fits, link_row_lem, inner-row}
use Rattle.questions.proofs.rows.row.Goals as goal

pub link_of-link-requires : goal.link_of-link-requires
link_of-link-requires c = used-fits c.requires.good c.args.r c.requires.r_value

pub inner_of-inner-requires : goal.inner_of-inner-requires
inner_of-inner-requires c = used-fits c.requires.good c.args.r c.requires.r_value

pub length_of-requires : goal.length_of-requires
length_of-requires c = used-fits c.requires.good c.args.r c.requires.r_value

pub returns : goal.returns
returns c =
    let g = c.requires.good in
    let length = c.length_of.ensures in record {
      length = kept length.1 ∙ length.0 ∙ g.table.length-is c.args.r c.requires.r_value;
      link = c.link_of-link.ensures.0 ∙ link_row_lem g c.args.r c.requires.r_value;
      inner = c.inner_of-inner.ensures.0 ∙ inner-row g c.args.r c.requires.r_value;
    }
