use Rattle.dwg_cert.proofs.EntryWriting.{entry_put}
use Rattle.dwg_cert.proofs.writing.write_entry.Goals as goal

pub returns-clause-written : goal.returns-clause-written
returns-clause-written c =
    entry_put _ _ _ _ c.args.entry.now _ _ _ c.value.ensures.value c.stored.ensures c.stored-2.ensures c.put_number.ensures.written c.put_number-2.ensures.written
    c.put_number-3.ensures.written
