mod FetchLemmas
