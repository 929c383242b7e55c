use Rattle.c_interface.proofs.Pages.{page-fit, page-reported}
use Rattle.c_interface.proofs.lethmuok_page.Goals as goal

pub page_numbers-requires : goal.page_numbers-requires
page_numbers-requires c =
    page-fit c.args.wanted c.args.code.now c.page.ensures c.well_formed.1.1.0.1

pub returns : goal.returns
returns c =
    let e = c.page_numbers.ensures in
    page-reported c.args.wanted c.args.code.now c.page.ensures e.0 e.1
