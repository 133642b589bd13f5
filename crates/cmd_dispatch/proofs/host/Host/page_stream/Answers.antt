use Rattle.cmd_dispatch.proofs.host.Host.page_stream.Goals as goal

pub returns-clause-pages : goal.returns-clause-pages
returns-clause-pages g c =
    (c.title_of-title.result.now, c.title_of-title.ensures, rw c.maker-maker.ensures at c.page_of.ensures)
