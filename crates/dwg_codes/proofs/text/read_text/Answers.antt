use Rattle.std.proofs.Common.{refl, None}
use Rattle.dwg_codes.proofs.TextReading.{tv_read, tv_unread, tv_cut}
use Rattle.dwg_codes.proofs.text.read_text.Goals as goal

pub returns-in_default-clause-reads : goal.returns-in_default-clause-reads
returns-in_default-clause-reads c = tv_unread None _ _ refl c.in_default.ensures.reads

pub returns-in_default-2-clause-reads : goal.returns-in_default-2-clause-reads
returns-in_default-2-clause-reads c =
    tv_cut None _ c.in-Some.count c.from.result _ _ _ refl c.from.ensures c.in_default-2.is c.in-Some.ensures.reads c.in_ok-run.ensures.reads

pub returns-clause-reads : goal.returns-clause-reads
returns-clause-reads c =
    tv_read c.in-Some.count c.from.result c.in-Some-2.run' _ _ _ _ c.from.ensures c.in-Some-2.is c.in-Some.ensures.reads c.in_ok-run.ensures.reads
