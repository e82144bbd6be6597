use Rattle.dwg_cert.proofs.DrawnUp.{drawn_is_certificate}
use Rattle.dwg_cert.proofs.certifying.draw_up.Goals as goal

pub build-requires : goal.build-requires
build-requires c = drawn_is_certificate c.args.drawing.now c.in_ok-entries.entries c.requires.ascending c.requires.few c.in_ok-entries.ensures
