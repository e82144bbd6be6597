use Rattle.dwg_grammar.proofs.CodeLemmas.{lawful_of_code}
use Rattle.dwg_grammar.specs.Grammar.{AnyLetters}
use Rattle.dwg_object.specs.Heads.{head}
use Rattle.dwg_object.proofs.HeadLemmas.{head_is_code, begins_same}
use Rattle.dwg_object.proofs.OwnLaws.{own_is_lawful, own_of_kind}
use Rattle.dwg_object.proofs.SpanLaws.{tried_span_means}
use Rattle.dwg_object.proofs.FrameLaws.{frames_same, tried_frame_means, held_frame}
use Rattle.dwg_object.proofs.FormLaws.{forms_same, form_of_head, head_of_form, form_is_valid, parts_narrower, valid_is_form, written_frame, frame_is_bytes}
use Rattle.dwg_object.proofs.laws.frame_laws.Goals as goal

pub returns : goal.returns
returns c =
    record {
      head_lawful = λ version. lawful_of_code AnyLetters (head version) (head_is_code version);
      one_head = begins_same;
      own_lawful = own_is_lawful;
      own_kind = own_of_kind;
      spans = tried_span_means;
      frames = tried_frame_means;
      one_frame = frames_same;
      held = held_frame;
      one_form = forms_same;
      form = form_of_head;
      form_head = head_of_form;
      valid = form_is_valid;
      written = valid_is_form;
      newer = parts_narrower;
      framed = written_frame;
      bytes = frame_is_bytes;
    }
