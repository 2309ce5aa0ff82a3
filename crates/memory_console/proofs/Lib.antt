mod ClockLemmas
mod FeedLemmas
